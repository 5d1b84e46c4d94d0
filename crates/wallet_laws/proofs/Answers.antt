-- An answer releases exactly the items that it returns, or that it withholds.
use Rattle.std.proofs.Common.{◌≡◌, ℕ, List, [], ◌∷◌, Bool, true, false, cond, map, Option, Some, Result, Ok, Err, refl, ◌∙◌, ap, subst}
use Rattle.std.specs.Prelude.{nat_le, length}
use Rattle.doc_request.specs.Asked.{Asked, Document, Documents, NoRequest, NotCbor, asked}
use Rattle.doc_response.specs.Answered.{Answered}
use Rattle.doc_response.specs.Draft as draft
use Rattle.doc_response.specs.Written.{response_bytes}
use Rattle.key_device.specs.Plan.{Done, over_all}
use Rattle.key_device.specs.PlanSteps.{each}
use Rattle.key_device.specs.declared.device_fault.DeviceFault.{DeviceFault}
use Rattle.key_device.specs.declared.exchange.Exchange.{Exchange}
use Rattle.round_model.proofs.AlikeLemmas.{in_parts}
use Rattle.session_seal.specs.Wallet.{WalletSession}
use Rattle.wallet_model.specs.Answer.{Answer, answer, answer_asked, answer_request, answer_selections, answer_to_readers, answer_with, authenticated, device_auth, document_with, full_draft, known_readers, places_of, status_response, without_items}
use Rattle.wallet_model.specs.Laws.{AreReaders}
use Rattle.wallet_model.specs.Released.{ReleasedDocument, Selection, choices, selections}
use Rattle.wallet_model.specs.Setup.{Setup}
use Rattle.wallet_model.proofs.Always.{Always, Anything, OfValue, always_outcome, always_step, some_same}
use Rattle.wallet_model.proofs.ReaderNames.{always_value}
use Rattle.wallet_laws.specs.Exactly.{IsExact, IsReleasedExactly, Nothing, Returned, Withheld}
use Rattle.wallet_laws.proofs.Places.{answered_of, are_places}

-- ---- the documents of a response

abbrev answered_in : draft.Document → Answered
answered_in d = d.answered

-- they are those that were chosen, each authenticated
abbrev AreOf : List ReleasedDocument → List draft.Document → Type 0
AreOf list documents = map answered_in documents ≡ map answered_of list

are_answered : (session : WalletSession) (list : List ReleasedDocument) → Always (OfValue (AreOf list)) (each (authenticated session) list)
unfolding authenticated
are_answered session [] = refl
are_answered session (c ∷ list) =
    always_step (λ (d : draft.Document). d.answered ≡ c.answered) (AreOf (c ∷ list)) (authenticated session c) _
    (always_step Anything (λ (d : draft.Document). d.answered ≡ c.answered) (device_auth session c) (λ auth. Done (Ok (document_with c auth))) (always_value (device_auth session c)) (λ auth any. refl))
    (λ d is. always_step (AreOf list) (AreOf (c ∷ list)) (each (authenticated session) list) _ (are_answered session list)
    (λ ds are. ap (λ (a : Answered). a ∷ map answered_in ds) is ∙ ap (λ (rest : List Answered). c.answered ∷ rest) are))

-- ---- the answer

-- what is known where documents were chosen
record Chose (W : Setup) (session : WalletSession) (text : List ℕ) (tape : List Exchange) : Type 0 where
  documents : List Document
  readers : List (Option (List ℕ))
  asks : asked text ≡ Documents documents
  are_known : AreReaders W session documents tape readers

abbrev list_of : (W : Setup) (session : WalletSession) (text : List ℕ) (tape : List Exchange) → Chose W session text tape → List Selection
list_of W session text tape c = selections W c.documents c.readers

withheld : (W : Setup) (session : WalletSession) (text : List ℕ) (tape : List Exchange) (c : Chose W session text tape)
    → IsExact W session text tape (record { text = status_response 10; places = places_of (list_of W session text tape c) })
withheld W session text tape c = Withheld c.documents c.readers c.asks c.are_known (are_places W c.documents c.readers) refl

with_documents : (W : Setup) (session : WalletSession) (text : List ℕ) (tape : List Exchange) (c : Chose W session text tape) (made : Result (List draft.Document) DeviceFault)
    → OfValue (AreOf (choices (list_of W session text tape c))) made → IsExact W session text tape (answer_with (list_of W session text tape c) made)
with_documents W session text tape c (Err fault) are = withheld W session text tape c
with_documents W session text tape c (Ok documents) are = go (nat_le (length (response_bytes (full_draft (list_of W session text tape c) documents))) 1048000) where
  whole : draft.Draft
  whole = full_draft (list_of W session text tape c) documents

  go : (short : Bool) → IsExact W session text tape (record { text = cond short (response_bytes whole) (status_response 10); places = places_of (list_of W session text tape c) })
  go true = Returned c.documents c.readers c.asks c.are_known (are_places W c.documents c.readers) (record { content = whole; written = refl; are = are })
  go false = withheld W session text tape c

of_selections : (W : Setup) (session : WalletSession) (text : List ℕ) (tape : List Exchange) (c : Chose W session text tape)
    (rest other : List Exchange) (words : List ℕ) (given : Answer)
    → (over_all (answer_selections session (list_of W session text tape c)) rest other words).outcome ≡ Some given → IsExact W session text tape given
unfolding answer_selections
of_selections W session text tape c rest other words given is =
    let list = list_of W session text tape c in
    let plan = each (authenticated session) (choices list) in
    let parts = in_parts plan (λ documents. Done (answer_with list documents)) rest other words given is in
    let are = always_outcome (OfValue (AreOf (choices list))) plan rest other words parts.middle (are_answered session (choices list)) parts.before in
    subst (IsExact W session text tape) (some_same (answer_with list parts.middle) given parts.after) (with_documents W session text tape c parts.middle are)

of_status : (W : Setup) (session : WalletSession) (text : List ℕ) (tape : List Exchange) (status : ℕ) (given : Answer)
    → Some (without_items status) ≡ Some given → IsExact W session text tape given
of_status W session text tape status given is =
    subst (IsExact W session text tape) (some_same (without_items status) given is) (Nothing status refl refl)

of_readers : (W : Setup) (session : WalletSession) (text : List ℕ) (tape : List Exchange) (documents : List Document) (known : Result (List (Option (List ℕ))) DeviceFault)
    (rest other : List Exchange) (words : List ℕ) (given : Answer)
    → asked text ≡ Documents documents → (over_all (known_readers W session.transcript documents) tape [] []).outcome ≡ Some known
    → (over_all (answer_to_readers W session documents known) rest other words).outcome ≡ Some given → IsExact W session text tape given
of_readers W session text tape documents (Err fault) rest other words given asks are is = of_status W session text tape 10 given is
of_readers W session text tape documents (Ok readers) rest other words given asks are is =
    of_selections W session text tape (record { documents = documents; readers = readers; asks = asks; are_known = are }) rest other words given is

of_asked : (W : Setup) (session : WalletSession) (text : List ℕ) (tape : List Exchange) (asks : Asked) (given : Answer)
    → asked text ≡ asks → (over_all (answer_asked W session asks) tape [] []).outcome ≡ Some given → IsExact W session text tape given
unfolding answer_request
of_asked W session text tape NotCbor given is came = of_status W session text tape 11 given came
of_asked W session text tape NoRequest given is came = of_status W session text tape 12 given came
of_asked W session text tape (Documents documents) given is came =
    let parts = in_parts (known_readers W session.transcript documents) (answer_to_readers W session documents) tape [] [] given came in
    of_readers W session text tape documents parts.middle _ _ _ given is parts.before parts.after

pub is_released_exactly : IsReleasedExactly
unfolding answer
is_released_exactly W session text tape given is = of_asked W session text tape (asked text) given refl is
