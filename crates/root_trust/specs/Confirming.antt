-- The trusted root that confirms a certificate.
use Rattle.std.specs.Prelude.{if◌then◌else◌, Bool, false, List, Option, Result, Ok, Err}
use Rattle.cert_view.specs.Certificate.{Fields, certificate}
use Rattle.cert_view.specs.Root.{listed}
use Rattle.cert_view.specs.declared.cert_fault.CertFault.{CertFault}
use Rattle.cert_view.specs.declared.root.Root.{Root}
use Rattle.key_device.specs.Plan.{Plan, Done}
use Rattle.key_device.specs.PlanSteps.{first_yes}
use Rattle.key_device.specs.Questions.{verified}
use Rattle.key_device.specs.declared.device_fault.DeviceFault.{DeviceFault}
use Rattle.key_device.specs.declared.device_fault.DeviceFault.TheVariants.{Failed}
use Rattle.root_trust.specs.Names.{is_named}

-- Whether a root confirms a certificate: it is of the issuer's name, and it signed the certificate. One of another
-- name isn't asked.
abbrev pub confirmed_by : Fields → Result Fields CertFault → Plan (Result Bool DeviceFault)
confirmed_by cert (Ok root) = if is_named cert (Ok root) then verified Failed root.tbs.key cert.message cert.signature else Done (Ok false)
confirmed_by cert (Err fault) = Done (Ok false)

abbrev pub root_confirms : Fields → Root → Plan (Result Bool DeviceFault)
root_confirms cert root = confirmed_by cert (certificate (listed root).bytes)

-- the first root that does, in the order of the file
unfoldable pub confirming_root : Fields → List Root → Plan (Result (Option Root) DeviceFault)
confirming_root cert roots = first_yes (root_confirms cert) roots
