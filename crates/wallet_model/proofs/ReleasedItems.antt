-- Nothing but released items are in a response.
use Rattle.std.proofs.Common.{◌≡◌, ℕ, zero, suc, List, [], ◌∷◌, Bool, true, false, cond, map, Option, Some, None, Result, Ok, Err, refl, sym, ap}
use Rattle.std.specs.Prelude.{nat_le, length, option_map, slice_get}
use Rattle.std.specs.List.{AllByRecursion, cons_option}
use Rattle.consent.specs.Rules.{approved}
use Rattle.doc_request.specs.Asked.{Asked, NotCbor, NoRequest, Documents, Document, asked}
use Rattle.doc_request.specs.declared.wish_draft.WishDraft.{WishDraft}
use Rattle.doc_response.specs.Draft as draft
use Rattle.doc_response.specs.Written.{response_bytes}
use Rattle.doc_store.specs.Held.{held}
use Rattle.key_device.specs.Plan.{Done, over_all}
use Rattle.key_device.specs.PlanSteps.{each}
use Rattle.key_device.specs.declared.device_fault.DeviceFault.{DeviceFault}
use Rattle.key_device.specs.declared.exchange.Exchange.{Exchange}
use Rattle.mdoc_outside.specs.OptionSteps.{◌>>=◌ as ◌>>?◌}
use Rattle.round_model.proofs.AlikeLemmas.{in_parts}
use Rattle.session_seal.specs.Wallet.{WalletSession}
use Rattle.wallet_model.specs.Answer.{Answer, answer, answer_asked, answer_request, answer_selections, answer_to_readers, answer_with, authenticated, device_auth, document_with, full_draft, known_readers, response_with, status_response}
use Rattle.wallet_model.specs.Laws.{AreReaders, AreReleased, IsReleased, IsReleasedOnly, IsResponse}
use Rattle.wallet_model.specs.Released.{ReleasedDocument, ReleasedItem, Selection, ShownCopy, choice, choice_of, choice_with, choices, item_for, item_of, named, refused, released, selections, shown_copy, wish_for, wishes_of}
use Rattle.wallet_model.specs.Setup.{Setup}
use Rattle.wallet_model.proofs.Always.{Always, Anything, OfValue, always_outcome, always_step}
use Rattle.wallet_model.proofs.ReaderNames.{always_value}

-- ---- the items of a document

-- a document of a request, and the reader that is known for it
record IsAskedBy (documents : List Document) (readers : List (Option (List ℕ))) (document : Document) (reader : Option (List ℕ)) : Type 0 where
  place : ℕ
  is_asked : slice_get documents place ≡ Some document
  is_reader : slice_get readers place ≡ Some reader

-- what holds of all items of one document
record Context (W : Setup) (session : WalletSession) (text : List ℕ) (tape : List Exchange) (document : Document) (reader : Option (List ℕ)) (shown : ShownCopy) : Type 0 where
  documents : List Document
  asks : asked text ≡ Documents documents
  readers : List (Option (List ℕ))
  are_known : AreReaders W session documents tape readers
  by : IsAskedBy documents readers document reader
  is_shown : shown_copy W document.doc_type ≡ Some shown

-- a wish for which an item is released is allowed, and its item is held
was_allowed : (allowed : Bool) (found : Option (List ℕ)) (raw : List ℕ) → cond allowed found None ≡ Some raw → (allowed ≡ true) × (found ≡ Some raw)
was_allowed true found raw is = (refl, is)
was_allowed false found raw is = cc

abbrev AllReleased : Setup → WalletSession → List ℕ → List Exchange → Document → List ReleasedItem → Type 0
AllReleased W session text tape document items =
    AllByRecursion (λ (item : List ℕ × List ℕ). IsReleased W session text tape document.doc_type item) (map item_of items)

one_item : (W : Setup) (session : WalletSession) (text : List ℕ) (tape : List Exchange) (document : Document) (reader : Option (List ℕ)) (shown : ShownCopy)
    → Context W session text tape document reader shown → (wish : WishDraft) (place : ℕ) → slice_get document.wishes place ≡ Some wish
    → (found : Option (List ℕ)) → item_for W.rules reader shown.copy (wish_for document.doc_type wish) ≡ found
    → (more : List ReleasedItem) → AllReleased W session text tape document more
    → AllReleased W session text tape document (cons_option (option_map (named (wish_for document.doc_type wish)) found) more)
one_item W session text tape document reader shown c wish place is_wish None is more all = all
one_item W session text tape document reader shown c wish place is_wish (Some raw) is more all =
    let allowed = was_allowed (approved W.rules reader (wish_for document.doc_type wish)) (held shown.copy wish.ns wish.name) raw is in (
      record {
        documents = c.documents;
        asks = c.asks;
        readers = c.readers;
        are_known = c.are_known;
        place = c.by.place;
        document = document;
        is_asked = c.by.is_asked;
        of_type = refl;
        reader = reader;
        is_reader = c.by.is_reader;
        wish = wish;
        wish_place = place;
        is_wish = is_wish;
        is_allowed = allowed.0;
        shown = shown;
        is_shown = c.is_shown;
        is_held = allowed.1;
        of_namespace = refl;
      },
      all,
    )

all_items : (W : Setup) (session : WalletSession) (text : List ℕ) (tape : List Exchange) (document : Document) (reader : Option (List ℕ)) (shown : ShownCopy)
    → Context W session text tape document reader shown → (wishes : List WishDraft) (place_of : ℕ → ℕ)
    → ((i : ℕ) (wish : WishDraft) → slice_get wishes i ≡ Some wish → slice_get document.wishes (place_of i) ≡ Some wish)
    → AllReleased W session text tape document (released W.rules reader shown.copy (map (wish_for document.doc_type) wishes))
all_items W session text tape document reader shown c [] place_of at = tt
all_items W session text tape document reader shown c (wish ∷ wishes) place_of at =
    one_item W session text tape document reader shown c wish (place_of zero) (at zero wish refl)
    (item_for W.rules reader shown.copy (wish_for document.doc_type wish)) refl
    (released W.rules reader shown.copy (map (wish_for document.doc_type) wishes))
    (all_items W session text tape document reader shown c wishes (λ i. place_of (suc i)) (λ i other is. at (suc i) other is))

-- ---- a choice

abbrev ChoiceReleased : Setup → WalletSession → List ℕ → List Exchange → ReleasedDocument → Type 0
ChoiceReleased W session text tape c =
    AllByRecursion (λ (item : List ℕ × List ℕ). IsReleased W session text tape c.answered.doc_type item) c.answered.items

abbrev IfChoice : (ReleasedDocument → Type 0) → Option ReleasedDocument → Type 0
IfChoice P None = Unit {0}
IfChoice P (Some c) = P c

with_items : (W : Setup) (session : WalletSession) (text : List ℕ) (tape : List Exchange) (document : Document) (shown : ShownCopy)
    (missing : List (List ℕ × List ℕ)) (items : List ReleasedItem)
    → AllReleased W session text tape document items → IfChoice (ChoiceReleased W session text tape) (choice_with document.doc_type shown missing items)
with_items W session text tape document shown missing [] all = tt
with_items W session text tape document shown missing (item ∷ items) all = all

one_choice : (W : Setup) (session : WalletSession) (text : List ℕ) (tape : List Exchange) (documents : List Document) (readers : List (Option (List ℕ)))
    → asked text ≡ Documents documents → AreReaders W session documents tape readers
    → (document : Document) (reader : Option (List ℕ)) → IsAskedBy documents readers document reader
    → IfChoice (ChoiceReleased W session text tape) (choice W reader document)
one_choice W session text tape documents readers asks are document reader by = of_shown (shown_copy W document.doc_type) refl
  where
    of_shown : (found : Option ShownCopy) → shown_copy W document.doc_type ≡ found → IfChoice (ChoiceReleased W session text tape) (found >>? choice_of W.rules reader document)
    of_shown None is = tt
    of_shown (Some shown) is =
        with_items W session text tape document shown (refused W.rules reader shown.copy (wishes_of document)) (released W.rules reader shown.copy (wishes_of document))
        (all_items W session text tape document reader shown
        (record { documents = documents; asks = asks; readers = readers; are_known = are; by = by; is_shown = is })
        document.wishes (λ i. i) (λ i wish at. at))

-- ---- all of them

add_choice : (P : ReleasedDocument → Type 0) (found : Option ReleasedDocument) (list : List ReleasedDocument) → IfChoice P found → AllByRecursion P list → AllByRecursion P (cons_option found list)
add_choice P None list is all = all
add_choice P (Some c) list is all = (is, all)

all_choices : (W : Setup) (session : WalletSession) (text : List ℕ) (tape : List Exchange) (documents : List Document) (readers : List (Option (List ℕ)))
    → asked text ≡ Documents documents → AreReaders W session documents tape readers
    → (later : List Document) (their : List (Option (List ℕ))) (place_of : ℕ → ℕ)
    → ((i : ℕ) (document : Document) → slice_get later i ≡ Some document → slice_get documents (place_of i) ≡ Some document)
    → ((i : ℕ) (reader : Option (List ℕ)) → slice_get their i ≡ Some reader → slice_get readers (place_of i) ≡ Some reader)
    → AllByRecursion (ChoiceReleased W session text tape) (choices (selections W later their))
all_choices W session text tape documents readers asks are [] their place_of at by = tt
all_choices W session text tape documents readers asks are (document ∷ later) [] place_of at by = tt
all_choices W session text tape documents readers asks are (document ∷ later) (reader ∷ their) place_of at by =
    add_choice (ChoiceReleased W session text tape) (choice W reader document) (choices (selections W later their))
    (one_choice W session text tape documents readers asks are document reader (record { place = place_of zero; is_asked = at zero document refl; is_reader = by zero reader refl }))
    (all_choices W session text tape documents readers asks are later their (λ i. place_of (suc i)) (λ i other is. at (suc i) other is) (λ i other is. by (suc i) other is))

-- ---- the documents of a response

-- the documents are those of the choices, authenticated
abbrev Answers : List ReleasedDocument → List draft.Document → Type 0
Answers [] [] = Unit {0}
Answers [] (d ∷ ds) = ⊥
Answers (c ∷ cs) [] = ⊥
Answers (c ∷ cs) (d ∷ ds) = (d.answered ≡ c.answered) × Answers cs ds

are_answered : (session : WalletSession) (list : List ReleasedDocument) → Always (OfValue (Answers list)) (each (authenticated session) list)
unfolding authenticated
are_answered session [] = tt
are_answered session (c ∷ list) =
    always_step (λ (d : draft.Document). d.answered ≡ c.answered) (Answers (c ∷ list)) (authenticated session c) _
    (always_step Anything (λ (d : draft.Document). d.answered ≡ c.answered) (device_auth session c) (λ auth. Done (Ok (document_with c auth))) (always_value (device_auth session c)) (λ auth any. refl))
    (λ d is. always_step (Answers list) (Answers (c ∷ list)) (each (authenticated session) list) _ (are_answered session list) (λ ds are. (is, are)))

answered_released : (W : Setup) (session : WalletSession) (text : List ℕ) (tape : List Exchange) (list : List ReleasedDocument) (documents : List draft.Document)
    → Answers list documents → AllByRecursion (ChoiceReleased W session text tape) list → AllByRecursion (AreReleased W session text tape) documents
answered_released W session text tape [] [] are all = tt
answered_released W session text tape [] (d ∷ ds) are all = absurd are
answered_released W session text tape (c ∷ cs) [] are all = absurd are
answered_released W session text tape (c ∷ cs) (d ∷ ds) are all =
    (rw are.0 all.0, answered_released W session text tape cs ds are.1 all.1)

-- ---- the response

abbrev text_of : List ℕ → Option Answer → List ℕ
text_of other None = other
text_of other (Some given) = given.text

with_status : (W : Setup) (session : WalletSession) (text : List ℕ) (tape : List Exchange) (status : ℕ) (response : List ℕ)
    → response ≡ status_response status → IsResponse W session text tape response
with_status W session text tape status response is = record { content = draft.empty_draft status; is_written = is; are_released = tt }

with_documents : (W : Setup) (session : WalletSession) (text : List ℕ) (tape : List Exchange) (list : List Selection) (made : Result (List draft.Document) DeviceFault) (response : List ℕ)
    → OfValue (Answers (choices list)) made → AllByRecursion (ChoiceReleased W session text tape) (choices list)
    → response ≡ response_with list made → IsResponse W session text tape response
with_documents W session text tape list (Err fault) response are all is = with_status W session text tape 10 response is
with_documents W session text tape list (Ok documents) response are all is =
    limited (nat_le (length (response_bytes (full_draft list documents))) 1048000) is
  where
    limited : (short : Bool) → response ≡ cond short (response_bytes (full_draft list documents)) (status_response 10) → IsResponse W session text tape response
    limited true written = record { content = full_draft list documents; is_written = written; are_released = answered_released W session text tape (choices list) documents are all }
    limited false written = with_status W session text tape 10 response written

of_selections : (W : Setup) (session : WalletSession) (text : List ℕ) (tape : List Exchange) (list : List Selection)
    (rest other : List Exchange) (words : List ℕ) (given : Answer)
    → AllByRecursion (ChoiceReleased W session text tape) (choices list)
    → (over_all (answer_selections session list) rest other words).outcome ≡ Some given → IsResponse W session text tape given.text
unfolding answer_selections
of_selections W session text tape list rest other words given all is =
    let parts = in_parts (each (authenticated session) (choices list)) (λ documents. Done (answer_with list documents)) rest other words given is in
    with_documents W session text tape list parts.middle given.text
    (always_outcome (OfValue (Answers (choices list))) (each (authenticated session) (choices list)) rest other words parts.middle (are_answered session (choices list)) parts.before)
    all (sym (ap (text_of []) parts.after))

of_readers : (W : Setup) (session : WalletSession) (text : List ℕ) (tape : List Exchange) (documents : List Document) (known : Result (List (Option (List ℕ))) DeviceFault)
    (rest other : List Exchange) (words : List ℕ) (given : Answer)
    → asked text ≡ Documents documents → (over_all (known_readers W session.transcript documents) tape [] []).outcome ≡ Some known
    → (over_all (answer_to_readers W session documents known) rest other words).outcome ≡ Some given → IsResponse W session text tape given.text
of_readers W session text tape documents (Err fault) rest other words given asks are is = with_status W session text tape 10 given.text (sym (ap (text_of []) is))
of_readers W session text tape documents (Ok readers) rest other words given asks are is =
    of_selections W session text tape (selections W documents readers) rest other words given
    (all_choices W session text tape documents readers asks are documents readers (λ i. i) (λ i document at. at) (λ i reader at. at)) is

of_asked : (W : Setup) (session : WalletSession) (text : List ℕ) (tape : List Exchange) (asks : Asked) (given : Answer)
    → asked text ≡ asks → (over_all (answer_asked W session asks) tape [] []).outcome ≡ Some given → IsResponse W session text tape given.text
unfolding answer_request
of_asked W session text tape NotCbor given is came = with_status W session text tape 11 given.text (sym (ap (text_of []) came))
of_asked W session text tape NoRequest given is came = with_status W session text tape 12 given.text (sym (ap (text_of []) came))
of_asked W session text tape (Documents documents) given is came =
    let parts = in_parts (known_readers W session.transcript documents) (answer_to_readers W session documents) tape [] [] given came in
    of_readers W session text tape documents parts.middle _ _ _ given is parts.before parts.after

pub is_released_only : IsReleasedOnly
unfolding answer
is_released_only W session text tape given is = of_asked W session text tape (asked text) given refl is
