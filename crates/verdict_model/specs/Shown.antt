-- That the device shows a document in this session (ISO/IEC 18013-5, 9.1.3): it signed what the standard says, or made
-- a code of it under a key of its own and the reader's.
use Rattle.std.specs.Prelude.{ℕ, List, Option, Some, None, is_none, Result, Err}
use Rattle.std.specs.Result.{result_ok}
use Rattle.std.specs.Str.{bytes_eq}
use Rattle.mdoc_outside.specs.OptionSteps.{◌>>=◌, where_true}
use Rattle.mdoc_outside.specs.declared.key_name.KeyName.TheVariants as keys
use Rattle.cbor_view.specs.Parts.{Part}
use Rattle.cbor_maps.specs.Reading.{optional_field, any_in}
use Rattle.cose_msgs.specs.Message.{Signed, Authenticated, sign1, mac0}
use Rattle.cose_msgs.specs.Structures.{signed_structure, mac_structure}
use Rattle.cose_msgs.specs.Transcript.{device_payload}
use Rattle.key_device.specs.Questions.{verified}
use Rattle.doc_response.specs.DeviceMac.{mac_key}
use Rattle.doc_response.specs.Response.{Document}
use Rattle.hmac_hkdf.specs.Mac.{hmac}
use Rattle.key_device.specs.Plan.{Plan, Done, Then}
use Rattle.key_device.specs.PlanSteps.{◌>>=◌ as ◌>>!◌}
use Rattle.key_device.specs.declared.ask.Ask.TheVariants.{Agree}
use Rattle.key_device.specs.declared.point.Point.{Point}
use Rattle.key_device.specs.declared.told.Told.{Told}
use Rattle.key_device.specs.declared.told.Told.TheVariants as tells
use Rattle.key_device.specs.declared.device_fault.DeviceFault.TheVariants.{Failed}
use Rattle.verdict_model.specs.Steps.{Stop, Refused, Unanswered, check_that, needed, asked_of_device}
use Rattle.verdict_model.specs.declared.doc_check.DocCheck.TheVariants as checks

-- The device's authentication in its form: exactly one of a signature and a code, its payload detached.
pub data DeviceProof : Type 0 where
  BySignature : Signed → DeviceProof
  ByMac : Authenticated → DeviceProof

abbrev pub signature_of : Part → Option DeviceProof
signature_of item = do
  signed ← result_ok (sign1 item)
  where_true (is_none signed.payload) (BySignature signed)

abbrev pub mac_of : Part → Option DeviceProof
mac_of item = do
  code ← result_ok (mac0 item)
  where_true (is_none code.payload) (ByMac code)

abbrev pub one_of : Option Part → Option Part → Option DeviceProof
one_of (Some signature) None = signature_of signature
one_of None (Some mac) = mac_of mac
one_of signature mac = None

abbrev pub device_proof : Part → Option DeviceProof
device_proof map = do
  signature ← result_ok (optional_field keys.DeviceSignature any_in map)
  mac ← result_ok (optional_field keys.DeviceMac any_in map)
  one_of signature mac

-- what both ends know of the session: its transcript, and the number of the reader's own key
pub record SessionBinding : Type 0 where
  pub transcript : List ℕ
  pub key : ℕ

abbrev pub payload_of : SessionBinding → Document → List ℕ
payload_of session d = device_payload session.transcript d.doc_type d.device_namespaces

-- the code that the session calls for
abbrev pub code_of : SessionBinding → List ℕ → List ℕ → List ℕ → List ℕ
code_of session payload protected secret = hmac (mac_key secret session.transcript) (mac_structure protected payload)

abbrev pub matches : List ℕ → List ℕ → Plan (Result (Unit {0}) Stop)
matches kept made = check_that (checks.DeviceMac kept made) (bytes_eq kept made)

-- by what the reader's device told of the device key and its own
abbrev pub by_agreement : SessionBinding → List ℕ → Authenticated → Told → Plan (Result (Unit {0}) Stop)
by_agreement session payload code (tells.Secret secret) = matches code.tag (code_of session payload code.protected secret)
by_agreement session payload code tells.Refused = Done (Err (Refused checks.DeviceKeyRefused))
by_agreement session payload code told = Done (Err Unanswered)

abbrev pub shown_by : SessionBinding → Point → List ℕ → DeviceProof → Plan (Result (Unit {0}) Stop)
shown_by session key payload (BySignature signed) =
    asked_of_device (verified Failed key (signed_structure signed.protected payload) signed.signature) >>! λ yes.
    check_that checks.DeviceSignature yes
shown_by session key payload (ByMac code) = Then (Agree session.key key) (by_agreement session payload code)

-- Whether the device of that key shows the document.
unfoldable pub shown : SessionBinding → Point → Document → Plan (Result (Unit {0}) Stop)
shown session key d = needed checks.DeviceAuthForm (device_proof d.device_auth) >>! shown_by session key (payload_of session d)
