-- The wallet's answer to a text that was opened (ISO/IEC 18013-5, 8.3.2.1.2 and 9.1.3).
use Rattle.std.specs.Prelude.{ℕ, nat_le, List, [], length, Option, Result, Ok, Err, if◌then◌else◌}
use Rattle.std.specs.List.{flat_map}
use Rattle.cbor_maps.specs.Writing.{named_map}
use Rattle.cose_msgs.specs.Structures.{signed_structure}
use Rattle.cose_msgs.specs.Transcript.{device_payload}
use Rattle.cose_msgs.specs.Written.{es256}
use Rattle.doc_request.specs.Asked.{Asked, NotCbor, NoRequest, Documents, Document, asked}
use Rattle.doc_request.specs.Known.{known}
use Rattle.doc_response.specs.DeviceMac.{device_mac, mac_key}
use Rattle.doc_response.specs.Draft as draft
use Rattle.doc_response.specs.Written.{response_bytes}
use Rattle.doc_response.specs.declared.device_auth.DeviceAuth.{DeviceAuth}
use Rattle.doc_response.specs.declared.device_auth.DeviceAuth.TheVariants.{Signature, Mac}
use Rattle.key_device.specs.Plan.{Plan, Done, Then, bind}
use Rattle.key_device.specs.PlanSteps.{◌>>=◌, each, mapped}
use Rattle.key_device.specs.declared.ask.Ask.TheVariants.{Agree, Sign}
use Rattle.key_device.specs.declared.device_fault.DeviceFault.{DeviceFault}
use Rattle.key_device.specs.declared.device_fault.DeviceFault.TheVariants.{Failed}
use Rattle.key_device.specs.declared.told.Told.{Told}
use Rattle.key_device.specs.declared.told.Told.TheVariants as tells
use Rattle.session_seal.specs.Wallet.{WalletSession}
use Rattle.wallet_model.specs.Released.{ReleasedDocument, Selection, selections, choices, types_of_nothing}
use Rattle.wallet_model.specs.Setup.{Setup}
use Rattle.wallet_model.specs.declared.released_at.ReleasedAt.{ReleasedAt}

-- A response, and the places of the items that count as released.
pub record Answer : Type 0 where
  pub text : List ℕ
  pub places : List ReleasedAt

-- ---- who asks

-- the readers of the documents that are asked for, in order (9.1.4)
abbrev pub known_readers : Setup → List ℕ → List Document → Plan (Result (List (Option (List ℕ))) DeviceFault)
known_readers W transcript documents = each (λ (document : Document). known document transcript W.readers W.moment) documents

-- ---- the device's authentication of a document (9.1.3)

-- what it signs or makes a code of; it signs no element of its own
abbrev pub payload_of : WalletSession → ReleasedDocument → List ℕ
payload_of session choice = device_payload session.transcript choice.answered.doc_type (named_map [])

-- by a signature (9.1.3.6)
abbrev pub by_signature : Told → Result DeviceAuth DeviceFault
by_signature (tells.Signature signature) = Ok (Signature signature)
by_signature told = Err Failed

-- by a code, under a key of the secret of the device key and the reader's ephemeral key (9.1.3.5)
abbrev pub by_mac : WalletSession → ReleasedDocument → Told → Result DeviceAuth DeviceFault
by_mac session choice (tells.Secret secret) = Ok (Mac (device_mac (mac_key secret session.transcript) (payload_of session choice)))
by_mac session choice told = Err Failed

abbrev pub signed_auth : WalletSession → ReleasedDocument → Plan (Result DeviceAuth DeviceFault)
signed_auth session choice = Then (Sign choice.key (signed_structure es256 (payload_of session choice))) (λ told. Done (by_signature told))

abbrev pub mac_auth : WalletSession → ReleasedDocument → Plan (Result DeviceAuth DeviceFault)
mac_auth session choice = Then (Agree choice.key session.reader_key) (λ told. Done (by_mac session choice told))

unfoldable pub device_auth : WalletSession → ReleasedDocument → Plan (Result DeviceAuth DeviceFault)
device_auth session choice = if choice.uses_mac then mac_auth session choice else signed_auth session choice

abbrev pub document_with : ReleasedDocument → DeviceAuth → draft.Document
document_with choice auth = record { answered = choice.answered; issuer_auth = choice.issuer_auth; auth = auth }

unfoldable pub authenticated : WalletSession → ReleasedDocument → Plan (Result draft.Document DeviceFault)
authenticated session choice = device_auth session choice >>= λ auth. Done (Ok (document_with choice auth))

-- ---- the response

-- of a status alone
abbrev pub status_response : ℕ → List ℕ
status_response status = response_bytes (draft.empty_draft status)

abbrev pub without_items : ℕ → Answer
without_items status = record { text = status_response status; places = [] }

-- one of more than 1,048,000 bytes gives way to a general error (status 10, table 8)
abbrev pub within_limit : List ℕ → List ℕ
within_limit bytes = if nat_le (length bytes) 1048000 then bytes else status_response 10

abbrev pub full_draft : List Selection → List draft.Document → draft.Draft
full_draft selections documents = record { status = 0; documents = documents; nothing = types_of_nothing selections }

-- and so does one for which the device failed, or refused the reader's key
abbrev pub response_with : List Selection → Result (List draft.Document) DeviceFault → List ℕ
response_with selections (Ok documents) = within_limit (response_bytes (full_draft selections documents))
response_with selections (Err fault) = status_response 10

-- The items that were chosen count as released, whatever the response is: its length may depend on them.
abbrev pub places_of : List Selection → List ReleasedAt
places_of selections = flat_map (λ (choice : ReleasedDocument). choice.places) (choices selections)

abbrev pub answer_with : List Selection → Result (List draft.Document) DeviceFault → Answer
answer_with selections documents = record { text = response_with selections documents; places = places_of selections }

unfoldable pub answer_selections : WalletSession → List Selection → Plan Answer
answer_selections session selections = mapped (answer_with selections) (each (authenticated session) (choices selections))

-- A request: first who asks for each of its documents, then the device's authentication of each of which something is
-- released.
abbrev pub answer_to_readers : Setup → WalletSession → List Document → Result (List (Option (List ℕ))) DeviceFault → Plan Answer
answer_to_readers W session documents (Ok readers) = answer_selections session (selections W documents readers)
answer_to_readers W session documents (Err fault) = Done (without_items 10)

unfoldable pub answer_request : Setup → WalletSession → List Document → Plan Answer
answer_request W session documents = bind (known_readers W session.transcript documents) (answer_to_readers W session documents)

-- A text that isn't CBOR is answered with status 11, one that is and is no request with status 12 (table 8).
abbrev pub answer_asked : Setup → WalletSession → Asked → Plan Answer
answer_asked W session NotCbor = Done (without_items 11)
answer_asked W session NoRequest = Done (without_items 12)
answer_asked W session (Documents documents) = answer_request W session documents

unfoldable pub answer : Setup → WalletSession → List ℕ → Plan Answer
answer W session text = answer_asked W session (asked text)
