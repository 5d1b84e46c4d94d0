-- The names of trusted roots.
use Rattle.std.specs.Prelude.{Bool, false, List, Result, Ok, Err}
use Rattle.std.specs.List.{list_any}
use Rattle.std.specs.Str.{bytes_eq}
use Rattle.cert_view.specs.Certificate.{Fields, certificate}
use Rattle.cert_view.specs.Root.{listed}
use Rattle.cert_view.specs.declared.cert_fault.CertFault.{CertFault}
use Rattle.cert_view.specs.declared.root.Root.{Root}

-- whether a root has the name of the certificate's issuer
abbrev pub is_named : Fields → Result Fields CertFault → Bool
is_named cert (Ok root) = bytes_eq root.tbs.subject cert.tbs.issuer
is_named cert (Err fault) = false

abbrev pub has_named_root : Fields → List Root → Bool
has_named_root cert roots = list_any (λ (root : Root). is_named cert (certificate (listed root).bytes)) roots
