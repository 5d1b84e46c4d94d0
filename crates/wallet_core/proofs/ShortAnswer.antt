-- The text of an answer is short, whatever is told.
use Rattle.std.proofs.Common.{◌≡◌, ◌≤◌, ℕ, List, length, Bool, true, false, Option, Some, Result, Ok, Err, cond, refl, arith, leb-true}
use Rattle.std.specs.Prelude.{nat_le}
use Rattle.cbor_maps.specs.Writing.{key_bytes, map_head}
use Rattle.doc_request.specs.Asked.{Asked, Document, Documents, NoRequest, NotCbor, asked}
use Rattle.doc_response.specs.Draft as draft
use Rattle.doc_response.specs.Written.{response_bytes}
use Rattle.key_device.specs.Plan.{Done, Follows}
use Rattle.key_device.specs.PlanSteps.{each}
use Rattle.key_device.specs.declared.device_fault.DeviceFault.{DeviceFault}
use Rattle.key_device.specs.declared.exchange.Exchange.{Exchange}
use Rattle.session_seal.specs.Wallet.{WalletSession}
use Rattle.wallet_model.proofs.Always.{Always, Anything, always_anything, always_bind}
use Rattle.wallet_model.specs.Answer.{Answer, answer, answer_asked, answer_request, answer_selections, answer_to_readers, answer_with, authenticated, full_draft, known_readers, status_response, within_limit}
use Rattle.wallet_model.specs.Released.{Selection, choices, selections}
use Rattle.wallet_model.specs.Setup.{Setup}
use Rattle.wallet_core.proofs.Followed.{followed}

abbrev IsShort : Answer → Type 0
IsShort a = length a.text ≤ 1048000

-- ---- a response of a status alone

general-error : length (status_response 10) ≤ 1048000
unfolding response_bytes key_bytes map_head
general-error = omega arith

decoding-error : length (status_response 11) ≤ 1048000
unfolding response_bytes key_bytes map_head
decoding-error = omega arith

validation-error : length (status_response 12) ≤ 1048000
unfolding response_bytes key_bytes map_head
validation-error = omega arith

-- ---- any response

limited : (bytes : List ℕ) → length (within_limit bytes) ≤ 1048000
limited bytes = by (nat_le (length bytes) 1048000) refl
  where
    by : (short : Bool) → nat_le (length bytes) 1048000 ≡ short → length (cond short bytes (status_response 10)) ≤ 1048000
    by true is = leb-true (length bytes) 1048000 is
    by false is = general-error

of_selections : (session : WalletSession) (list : List Selection) → Always IsShort (answer_selections session list)
unfolding answer_selections
of_selections session list =
    always_bind Anything IsShort (each (authenticated session) (choices list)) (λ documents. Done (answer_with list documents))
    (always_anything (each (authenticated session) (choices list))) by
  where
    by : (made : Result (List draft.Document) DeviceFault) → Anything made → IsShort (answer_with list made)
    by (Ok documents) u = limited (response_bytes (full_draft list documents))
    by (Err fault) u = general-error

of_request : (W : Setup) (session : WalletSession) (documents : List Document) → Always IsShort (answer_request W session documents)
unfolding answer_request
of_request W session documents =
    always_bind Anything IsShort (known_readers W session.transcript documents) (answer_to_readers W session documents)
    (always_anything (known_readers W session.transcript documents)) by
  where
    by : (readers : Result (List (Option (List ℕ))) DeviceFault) → Anything readers → Always IsShort (answer_to_readers W session documents readers)
    by (Ok known) u = of_selections session (selections W documents known)
    by (Err fault) u = general-error

of_asked : (W : Setup) (session : WalletSession) (asks : Asked) → Always IsShort (answer_asked W session asks)
of_asked W session NotCbor = decoding-error
of_asked W session NoRequest = validation-error
of_asked W session (Documents documents) = of_request W session documents

of_text : (W : Setup) (session : WalletSession) (text : List ℕ) → Always IsShort (answer W session text)
unfolding answer
of_text W session text = of_asked W session (asked text)

pub is_short : (W : Setup) (session : WalletSession) (text : List ℕ) {old new : List Exchange} (a : Answer)
    → Follows (answer W session text) old new (Some a) → length a.text ≤ 1048000
is_short W session text a follows = followed IsShort (answer W session text) (of_text W session text) follows
