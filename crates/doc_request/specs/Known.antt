-- Who asks (ISO/IEC 18013-5, 9.1.4): a reader is known by the name of the trusted root under which its authentication
-- is confirmed.
use Rattle.std.specs.Prelude.{ℕ, ℤ, if◌then◌else◌, Bool, true, false, List, Option, Some, None, is_none, Result, Ok}
use Rattle.std.specs.Result.{result_ok}
use Rattle.mdoc_outside.specs.OptionSteps.{◌>>=◌, where_true}
use Rattle.cbor_view.specs.Parts.{Part}
use Rattle.cert_view.specs.Certificate.{Fields, certificate}
use Rattle.cert_view.specs.Root.{listed}
use Rattle.cert_view.specs.declared.root.Root.{Root}
use Rattle.cose_msgs.specs.Message.{Signed, sign1}
use Rattle.cose_msgs.specs.Structures.{signed_structure}
use Rattle.cose_msgs.specs.Transcript.{reader_payload}
use Rattle.key_device.specs.Plan.{Plan, Done}
use Rattle.key_device.specs.PlanSteps.{◌>>=◌ as ◌>>!◌}
use Rattle.key_device.specs.Questions.{verified}
use Rattle.key_device.specs.declared.device_fault.DeviceFault.{DeviceFault}
use Rattle.key_device.specs.declared.device_fault.DeviceFault.TheVariants.{Failed}
use Rattle.root_trust.specs.Confirming.{confirming_root}
use Rattle.root_trust.specs.Validity.{are_valid}
use Rattle.doc_request.specs.Asked.{Document}

-- A reader authentication in its form: a signature with a detached payload and a chain, whose first certificate
-- reads.
pub record Authentication : Type 0 where
  pub signed : Signed
  pub cert : Fields

abbrev pub with_chain : Signed → Option Authentication
with_chain signed = do
  chain ← signed.chain
  cert ← result_ok (certificate chain)
  Some (record { signed = signed; cert = cert })

abbrev pub authentication : Part → Option Authentication
authentication item = do
  signed ← result_ok (sign1 item)
  detached ← where_true (is_none signed.payload) signed
  with_chain detached

-- that of a document, where it has one in its form
abbrev pub authentication_of : Document → Option Authentication
authentication_of document = document.reader_auth >>= authentication

-- whether the reader signed what it asks for, in this session
abbrev pub reader_signed : Authentication → List ℕ → List ℕ → Plan (Result Bool DeviceFault)
reader_signed own transcript items = verified Failed own.cert.tbs.key (signed_structure own.signed.protected (reader_payload transcript items)) own.signed.signature

-- the name of the root, where that is so
abbrev pub name_if : List ℕ → Bool → Option (List ℕ)
name_if name true = Some name
name_if name false = None

unfoldable pub signed_under : Authentication → Root → List ℕ → List ℕ → Plan (Result (Option (List ℕ)) DeviceFault)
signed_under own root transcript items = reader_signed own transcript items >>! λ yes. Done (Ok (name_if (listed root).name yes))

-- where the moment lies in both validities
unfoldable pub known_under : Authentication → List ℕ → List ℕ → ℤ → Root → Plan (Result (Option (List ℕ)) DeviceFault)
known_under own transcript items moment root = if are_valid moment own.cert root then signed_under own root transcript items else Done (Ok None)

-- where a root confirms the certificate
abbrev pub under_root : Authentication → List ℕ → List ℕ → ℤ → Option Root → Plan (Result (Option (List ℕ)) DeviceFault)
under_root own transcript items moment None = Done (Ok None)
under_root own transcript items moment (Some root) = known_under own transcript items moment root

unfoldable pub known_as : Authentication → List ℕ → List ℕ → List Root → ℤ → Plan (Result (Option (List ℕ)) DeviceFault)
known_as own transcript items readers moment = confirming_root own.cert readers >>! under_root own transcript items moment

abbrev pub known_by : Option Authentication → List ℕ → List ℕ → List Root → ℤ → Plan (Result (Option (List ℕ)) DeviceFault)
known_by None transcript items readers moment = Done (Ok None)
known_by (Some own) transcript items readers moment = known_as own transcript items readers moment

-- The name of the reader that asks for a document, or none: its authentication has the form; a root of its issuer's
-- name confirms its certificate; the moment lies in both validities; and the reader signed.
unfoldable pub known : Document → List ℕ → List Root → ℤ → Plan (Result (Option (List ℕ)) DeviceFault)
known document transcript readers moment = known_by (authentication_of document) transcript document.items readers moment
