-- What the issuer says of a document (ISO/IEC 18013-5, 9.1.2.2, 9.1.2.4 and 9.3.1): the security object that a document
-- signer under a trusted root signed, for this type and this moment, with the key of the device.
use Rattle.std.specs.Prelude.{ℕ, ℤ, int_le, List, Option, Some, None, Result, Ok, Err}
use Rattle.std.specs.Result.{result_ok}
use Rattle.std.specs.Str.{bytes_eq}
use Rattle.mdoc_outside.specs.OptionSteps.{◌>>=◌}
use Rattle.cbor_view.specs.Parts.{Part, cbor}
use Rattle.cbor_view.specs.declared.cbor_fault.CborFault.{CborFault}
use Rattle.cert_view.specs.Certificate.{Fields, certificate}
use Rattle.cert_view.specs.declared.root.Root.{Root}
use Rattle.cose_msgs.specs.Key.{key_of}
use Rattle.cose_msgs.specs.Message.{Signed, sign1}
use Rattle.cose_msgs.specs.Structures.{signed_structure}
use Rattle.key_device.specs.Plan.{Plan, Done}
use Rattle.key_device.specs.PlanSteps.{◌>>=◌ as ◌>>!◌}
use Rattle.key_device.specs.Questions.{verified}
use Rattle.key_device.specs.declared.device_fault.DeviceFault.TheVariants.{Failed}
use Rattle.key_device.specs.declared.point.Point.{Point}
use Rattle.mso_digests.specs.Object.{Object, object}
use Rattle.root_trust.specs.Confirming.{confirming_root}
use Rattle.root_trust.specs.Names.{has_named_root}
use Rattle.root_trust.specs.Validity.{are_valid, is_valid}
use Rattle.verdict_model.specs.Steps.{Stop, check_that, needed, asked_of_device}
use Rattle.verdict_model.specs.declared.doc_check.DocCheck.TheVariants as checks

-- The issuer's signature in its form: with a payload.
pub record IssuerAuth : Type 0 where
  pub signed : Signed
  pub payload : List ℕ

abbrev pub with_payload : Signed → Option IssuerAuth
with_payload signed = do
  payload ← signed.payload
  Some (record { signed = signed; payload = payload })

abbrev pub issuer_auth : Part → Option IssuerAuth
issuer_auth item = result_ok (sign1 item) >>= with_payload

-- the certificate of its signer, the first of its chain
abbrev pub signer_certificate : IssuerAuth → Option Fields
signer_certificate auth = do
  chain ← auth.signed.chain
  result_ok (certificate chain)

-- The signer: the certificate, which a trusted root of its issuer's name signed, is valid with that root at this moment
-- and is one of a document signer.
abbrev pub trusted_signer : List Root → ℤ → Fields → Plan (Result (Unit {0}) Stop)
trusted_signer roots moment cert =
    check_that checks.CertUntrusted (has_named_root cert roots) >>! λ named.
    asked_of_device (confirming_root cert roots) >>! λ found.
    needed checks.CertSignature found >>! λ root.
    check_that checks.CertTime (are_valid moment cert root) >>! λ in_time.
    check_that checks.KeyUse cert.tbs.signs_documents

-- the issuer's signature and its signer
pub record Signer : Type 0 where
  pub auth : IssuerAuth
  pub cert : Fields

abbrev pub signer_of : List Root → ℤ → Part → Plan (Result Signer Stop)
signer_of roots moment item =
    needed checks.IssuerAuthForm (issuer_auth item) >>! λ auth.
    needed checks.CertForm (signer_certificate auth) >>! λ cert.
    trusted_signer roots moment cert >>! λ trusted.
    Done (Ok (record { auth = auth; cert = cert }))

-- The object: the signer signed it, it is of this type, was signed while the certificate was valid, and is valid at this
-- moment.
abbrev pub timely : Fields → ℤ → Object → Plan (Result (Unit {0}) Stop)
timely cert moment o =
    check_that (checks.SignedTime o.signed cert.tbs.not_before) (is_valid o.signed cert) >>! λ signed.
    check_that (checks.NotYetValid o.from moment) (int_le o.from moment) >>! λ begun.
    check_that (checks.Expired o.until moment) (int_le moment o.until)

abbrev pub object_of : ℤ → List ℕ → Signer → Plan (Result Object Stop)
object_of moment doc_type signer =
    asked_of_device (verified Failed signer.cert.tbs.key (signed_structure signer.auth.signed.protected signer.auth.payload) signer.auth.signed.signature) >>! λ yes.
    check_that checks.IssuerSignature yes >>! λ confirmed.
    needed checks.MsoForm (result_ok (object signer.auth.payload)) >>! λ o.
    check_that checks.DocTypeDiffers (bytes_eq o.doc_type doc_type) >>! λ typed.
    timely signer.cert moment o >>! λ in_time.
    Done (Ok o)

-- the device key that the object names
abbrev pub key_in : Result Part CborFault → Option Point
key_in (Ok item) = result_ok (key_of item)
key_in (Err fault) = None

abbrev pub device_key : Object → Option Point
device_key o = key_in (cbor o.device_key)

-- What the issuer says: the object, and the device's key.
pub record IssuerStatement : Type 0 where
  pub object : Object
  pub key : Point

abbrev pub with_key : Object → Plan (Result IssuerStatement Stop)
with_key o = needed checks.DeviceKeyForm (device_key o) >>! λ key. Done (Ok (record { object = o; key = key }))

unfoldable pub issued : List Root → ℤ → List ℕ → Part → Plan (Result IssuerStatement Stop)
issued roots moment doc_type item = signer_of roots moment item >>! object_of moment doc_type >>! with_key
