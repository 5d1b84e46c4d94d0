-- The validities of a certificate and of its root.
use Rattle.std.specs.Prelude.{ℤ, int_le, Bool, false, ◌&&◌, Result, Ok, Err}
use Rattle.cert_view.specs.Certificate.{Fields, certificate}
use Rattle.cert_view.specs.Root.{listed}
use Rattle.cert_view.specs.declared.cert_fault.CertFault.{CertFault}
use Rattle.cert_view.specs.declared.root.Root.{Root}

-- whether a moment lies in a validity, both ends of which belong to it
abbrev pub is_valid : ℤ → Fields → Bool
is_valid moment cert = int_le cert.tbs.not_before moment && int_le moment cert.tbs.not_after

abbrev pub root_is_valid : ℤ → Result Fields CertFault → Bool
root_is_valid moment (Ok root) = is_valid moment root
root_is_valid moment (Err fault) = false

abbrev pub are_valid : ℤ → Fields → Root → Bool
are_valid moment cert root = is_valid moment cert && root_is_valid moment (certificate (listed root).bytes)
