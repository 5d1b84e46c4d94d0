-- What the core says of a document, and what a wallet releases of it.
use Rattle.std.proofs.Common.{◌≡◌, ℕ, Bool, true, false, cond, List, [], ◌∷◌, map, Option, Some, None, refl, sym, ap, ◌∙◌}
use Rattle.std.specs.Prelude.{filter, filter_map, option_map, slice_get, unwrap_or, IfSome}
use Rattle.std.specs.List.{cons_option}
use Rattle.std.proofs.lemmas.List.{append-nil}
use Rattle.std.proofs.lemmas.List.Concat.{flat_map-cons}
use Rattle.std.proofs.lemmas.Option.{slice_get-map}
use Rattle.mdoc_outside.specs.OptionSteps.{◌>>=◌}
use Rattle.consent.specs.Rules.{approved}
use Rattle.consent.specs.Wish.{Wanted}
use Rattle.consent.specs.declared.rule.Rule.{Rule}
use Rattle.doc_request.specs.Asked.{Document}
use Rattle.doc_request.specs.declared.doc_draft.DocDraft.{DocDraft}
use Rattle.doc_request.specs.declared.wish_draft.WishDraft.{WishDraft}
use Rattle.doc_store.specs.Held.{Place, chosen, document_place, item_at, place_at, place_of}
use Rattle.doc_store.specs.Store.{Copy, Document as Stored, Store}
use Rattle.mdoc_draft.specs.Core as core
use Rattle.mdoc_draft.specs.Released as program
use Rattle.mdoc_draft.proofs.AgreeLemmas.{answer-place}
use Rattle.wallet_model.specs.Released.{ReleasedDocument, ReleasedItem, ShownCopy, choice, choice_of, choice_with, item_for, item_of, named, place_in, refused, released, shown_copy, stored_place, wish_for, wishes_of}
use Rattle.wallet_model.specs.Setup.{Setup}
use Rattle.wallet_laws.proofs.Places.{ShownAt, shown_at}
use Rattle.draft_laws.specs.AsWallet.{AreAnsweredAlike, ShowsChosen, items_released, places_released}

-- ---- the copy

abbrev copy_of : Option ShownCopy → Option Copy
copy_of None = None
copy_of (Some shown) = Some shown.copy

-- the copy that the program shows, where its document stands at that place
abbrev copy_in : Option Stored → Option Copy
copy_in found = found >>= λ document. slice_get document.copies (chosen document)

abbrev choice_at : ℕ → Option Stored → Option ℕ → Option ShownCopy
choice_at at found place = found >>= λ document. place >>= λ p. slice_get document.copies p >>= λ copy. Some (record { document = at; uses_mac = document.uses_mac; copy = copy })

by_copy : (at : ℕ) (document : Stored) (c : Option Copy)
    → c ≡ copy_of (c >>= λ copy. Some (record { document = at; uses_mac = document.uses_mac; copy = copy }))
by_copy at document None = refl
by_copy at document (Some copy) = refl

by_document : (at : ℕ) (d : Option Stored) → copy_in d ≡ copy_of (choice_at at d (option_map chosen d))
by_document at None = refl
by_document at (Some document) = by_copy at document (slice_get document.copies (chosen document))

same_copy : (W : Setup) (doc_type : List ℕ) → ShowsChosen W → program.shown_copy W.store doc_type ≡ copy_of (shown_copy W doc_type)
same_copy W doc_type shows = go (document_place W.store doc_type) where
  go : (o : Option ℕ) → (o >>= λ at. copy_in (slice_get W.store at)) ≡ copy_of (o >>= λ at. choice_at at (slice_get W.store at) (slice_get W.choice at))
  go None = refl
  go (Some at) =
      by_document at (slice_get W.store at)
      ∙ ap (λ (p : Option ℕ). copy_of (choice_at at (slice_get W.store at) p)) (sym (slice_get-map chosen W.store at))
      ∙ ap (λ (list : List ℕ). copy_of (choice_at at (slice_get W.store at) (slice_get list at))) (sym shows)

-- ---- items and missing elements

no_answer : (allowed : Bool) → ◌≡◌ {A = Option (List ℕ)} (cond allowed None None) None
no_answer true = refl
no_answer false = refl

abbrev given : List Rule → Option (List ℕ) → Option Copy → List Wanted → List (List ℕ × List ℕ)
given rules reader copy wishes = filter_map (core.item_given rules reader copy) wishes

none_given : (rules : List Rule) (reader : Option (List ℕ)) (wishes : List Wanted) → given rules reader None wishes ≡ []
none_given rules reader [] = refl
none_given rules reader (wish ∷ wishes) =
    ap (λ (o : Option (List ℕ)). cons_option (option_map (core.with_namespace wish) o) (given rules reader None wishes)) (no_answer (approved rules reader wish))
    ∙ none_given rules reader wishes

items_given : (rules : List Rule) (reader : Option (List ℕ)) (copy : Copy) (wishes : List Wanted) → given rules reader (Some copy) wishes ≡ map item_of (released rules reader copy wishes)
items_given rules reader copy [] = refl
items_given rules reader copy (wish ∷ wishes) = go (item_for rules reader copy wish) (items_given rules reader copy wishes) where
  go : (o : Option (List ℕ)) → given rules reader (Some copy) wishes ≡ map item_of (released rules reader copy wishes)
      → cons_option (option_map (core.with_namespace wish) o) (given rules reader (Some copy) wishes) ≡ map item_of (cons_option (option_map (named wish) o) (released rules reader copy wishes))
  go None rest = rest
  go (Some raw) rest = ap (λ (items : List (List ℕ × List ℕ)). (wish.ns, raw) ∷ items) rest

-- ---- places

-- a wish more, which is answered at its place or isn't
abbrev wish_place : Store → Bool → Option Place → Option Place
wish_place documents allowed found = found >>= λ place. cond allowed (item_at documents place) None >>= λ raw. Some place

abbrev wish_answer : Store → Bool → Option Place → Option (List ℕ)
wish_answer documents allowed found = cond allowed (found >>= item_at documents) None

unanswered : (documents : Store) (allowed : Bool) (found : Option Place) → wish_answer documents allowed found ≡ None → wish_place documents allowed found ≡ None
unanswered documents false None is = refl
unanswered documents false (Some place) is = refl
unanswered documents true None is = refl
unanswered documents true (Some place) is = ap (λ (o : Option (List ℕ)). o >>= λ raw. Some place) is

at_place : (documents : Store) (allowed : Bool) (place : Place) (raw : List ℕ) → wish_answer documents allowed (Some place) ≡ Some raw → wish_place documents allowed (Some place) ≡ Some place
at_place documents false place raw is = absurd (cc)
at_place documents true place raw is = ap (λ (o : Option (List ℕ)). o >>= λ bytes. Some place) is

abbrev places : List Rule → Option (List ℕ) → Store → List Wanted → List Place
places rules reader documents wishes = filter_map (program.released_place rules reader documents) wishes

no_places : (rules : List Rule) (reader : Option (List ℕ)) (documents : Store) (doc_type : List ℕ) (wishes : List WishDraft) → program.shown_copy documents doc_type ≡ None
    → places rules reader documents (map (program.wanted_of doc_type) wishes) ≡ []
no_places rules reader documents doc_type [] none = refl
no_places rules reader documents doc_type (draft ∷ wishes) none =
    let wish = program.wanted_of doc_type draft in
    let allowed = approved rules reader wish in
    let is : wish_answer documents allowed (place_of documents doc_type draft.ns draft.name) ≡ None =
    sym (answer-place rules reader documents wish) ∙ ap (λ (copy : Option Copy). program.answer rules reader copy wish) none ∙ no_answer allowed in
    ap (λ (o : Option Place). cons_option o (places rules reader documents (map (program.wanted_of doc_type) wishes))) (unanswered documents allowed (place_of documents doc_type draft.ns draft.name) is)
    ∙ no_places rules reader documents doc_type wishes none

-- where the wallet shows a copy, an element of it stands at that place for both
place_shown : (W : Setup) (doc_type : List ℕ) (shown : ShownCopy) → ShowsChosen W → ShownAt W doc_type shown → (ns name : List ℕ)
    → place_of W.store doc_type ns name ≡ Some (stored_place W (record { document = shown.document; ns = ns; name = name }))
place_shown W doc_type shown shows at ns name =
    let picked : slice_get W.choice shown.document ≡ Some (chosen at.document) =
    ap (λ (list : List ℕ). slice_get list shown.document) shows ∙ slice_get-map chosen W.store shown.document ∙ ap (option_map chosen) at.there in
    ap (λ (o : Option ℕ). o >>= λ place. slice_get W.store place >>= λ document. Some (place_at place (chosen document) ns name)) at.found
    ∙ ap (λ (o : Option Stored). o >>= λ document. Some (place_at shown.document (chosen document) ns name)) at.there
    ∙ sym (ap (λ (o : Option ℕ). Some (place_at shown.document (unwrap_or o 0) ns name)) picked)

places_shown : (W : Setup) (reader : Option (List ℕ)) (doc_type : List ℕ) (shown : ShownCopy) → ShowsChosen W → ShownAt W doc_type shown
    → program.shown_copy W.store doc_type ≡ Some shown.copy → (wishes : List WishDraft)
    → places W.rules reader W.store (map (program.wanted_of doc_type) wishes)
    ≡ map (stored_place W) (map (place_in shown.document) (released W.rules reader shown.copy (map (wish_for doc_type) wishes)))
places_shown W reader doc_type shown shows at copy [] = refl
places_shown W reader doc_type shown shows at copy (draft ∷ wishes) =
    let found = place_shown W doc_type shown shows at draft.ns draft.name in
    let is : wish_answer W.store allowed (place_of W.store doc_type draft.ns draft.name) ≡ item_for W.rules reader shown.copy wish =
    sym (answer-place W.rules reader W.store wish) ∙ ap (λ (c : Option Copy). program.answer W.rules reader c wish) copy in
    go (item_for W.rules reader shown.copy wish) found is (places_shown W reader doc_type shown shows at copy wishes)
  where
    wish : Wanted
    wish = wish_for doc_type draft

    allowed : Bool
    allowed = approved W.rules reader wish

    place : Place
    place = stored_place W (record { document = shown.document; ns = draft.ns; name = draft.name })

    ours : List Place
    ours = places W.rules reader W.store (map (program.wanted_of doc_type) wishes)

    theirs : List ReleasedItem
    theirs = released W.rules reader shown.copy (map (wish_for doc_type) wishes)

    go : (o : Option (List ℕ)) → place_of W.store doc_type draft.ns draft.name ≡ Some place → wish_answer W.store allowed (place_of W.store doc_type draft.ns draft.name) ≡ o
        → ours ≡ map (stored_place W) (map (place_in shown.document) theirs)
        → cons_option (wish_place W.store allowed (place_of W.store doc_type draft.ns draft.name)) ours
        ≡ map (stored_place W) (map (place_in shown.document) (cons_option (option_map (named wish) o) theirs))
    go None found is rest =
        ap (λ (p : Option Place). cons_option p ours) (unanswered W.store allowed (place_of W.store doc_type draft.ns draft.name) is) ∙ rest
    go (Some raw) found is rest =
        let own : wish_answer W.store allowed (Some place) ≡ Some raw = ap (wish_answer W.store allowed) (sym found) ∙ is in
        ap (λ (p : Option Place). cons_option (wish_place W.store allowed p) ours) found
        ∙ ap (λ (p : Option Place). cons_option p ours) (at_place W.store allowed place raw own)
        ∙ ap (λ (list : List Place). place ∷ list) rest

-- ---- a document

abbrev AsWallet : Setup → Option (List ℕ) → DocDraft → Option ReleasedDocument → Type 0
AsWallet W reader draft found =
    ((core.answered W.rules reader W.store draft).items ≡ items_released found)
    × IfSome found (λ c. (core.answered W.rules reader W.store draft).missing ≡ c.answered.missing)
    × (places W.rules reader W.store (program.wishes_in draft) ≡ map (stored_place W) (places_released found))

with_items : (doc_type : List ℕ) (shown : ShownCopy) (missing : List (List ℕ × List ℕ)) (items : List ReleasedItem)
    → (items_released (choice_with doc_type shown missing items) ≡ map item_of items)
    × IfSome (choice_with doc_type shown missing items) (λ c. missing ≡ c.answered.missing)
    × (places_released (choice_with doc_type shown missing items) ≡ map (place_in shown.document) items)
with_items doc_type shown missing [] = (refl, tt, refl)
with_items doc_type shown missing (item ∷ items) = (refl, refl, refl)

if_missing : (found : Option ReleasedDocument) (one other : List (List ℕ × List ℕ)) → one ≡ other → IfSome found (λ c. other ≡ c.answered.missing) → IfSome found (λ c. one ≡ c.answered.missing)
if_missing None one other same is = tt
if_missing (Some c) one other same is = same ∙ is

one_document : (W : Setup) (reader : Option (List ℕ)) (draft : DocDraft) (document : Document) → ShowsChosen W → draft.doc_type ≡ document.doc_type → draft.wishes ≡ document.wishes
    → AsWallet W reader draft (choice W reader document)
one_document W reader draft document shows type wishes = go (shown_copy W document.doc_type) refl where
  asked : program.wishes_in draft ≡ wishes_of document
  asked = ap (λ (t : List ℕ). map (program.wanted_of t) draft.wishes) type ∙ ap (λ (list : List WishDraft). map (program.wanted_of document.doc_type) list) wishes

  copy : program.shown_copy W.store draft.doc_type ≡ copy_of (shown_copy W document.doc_type)
  copy = ap (program.shown_copy W.store) type ∙ same_copy W document.doc_type shows

  own : program.shown_copy W.store document.doc_type ≡ copy_of (shown_copy W document.doc_type)
  own = same_copy W document.doc_type shows

  go : (found : Option ShownCopy) → shown_copy W document.doc_type ≡ found → AsWallet W reader draft (found >>= choice_of W.rules reader document)
  go None is = (
    ap (λ (c : Option Copy). given W.rules reader c (program.wishes_in draft)) (copy ∙ ap copy_of is) ∙ none_given W.rules reader (program.wishes_in draft),
    tt,
    ap (places W.rules reader W.store) asked ∙ no_places W.rules reader W.store document.doc_type document.wishes (own ∙ ap copy_of is),
  )
  go (Some shown) is =
      let at = shown_at W document.doc_type shown is in
      let items = released W.rules reader shown.copy (wishes_of document) in
      let missing = refused W.rules reader shown.copy (wishes_of document) in
      let with = with_items document.doc_type shown missing items in
      let found = choice_with document.doc_type shown missing items in
      let shows_copy : program.shown_copy W.store draft.doc_type ≡ Some shown.copy = copy ∙ ap copy_of is in
      let same_missing : (core.answered W.rules reader W.store draft).missing ≡ missing =
      ap (λ (c : Option Copy). map core.full_name (filter (core.is_missing W.rules reader c) (program.wishes_in draft))) shows_copy
      ∙ ap (λ (list : List Wanted). map core.full_name (filter (core.is_missing W.rules reader (Some shown.copy)) list)) asked in (
        ap (λ (c : Option Copy). given W.rules reader c (program.wishes_in draft)) shows_copy
            ∙ items_given W.rules reader shown.copy (program.wishes_in draft)
            ∙ ap (λ (list : List Wanted). map item_of (released W.rules reader shown.copy list)) asked
            ∙ sym with.0,
        if_missing found (core.answered W.rules reader W.store draft).missing missing same_missing with.1,
        ap (places W.rules reader W.store) asked
            ∙ places_shown W reader document.doc_type shown shows at (own ∙ ap copy_of is) document.wishes
            ∙ ap (map (stored_place W)) (sym with.2),
      )

pub are_answered_alike : AreAnsweredAlike
are_answered_alike W reader draft document shows type wishes =
    let one = one_document W reader draft document shows type wishes in
    record {
      items = one.0;
      missing = one.1;
      places = ap (places W.rules reader W.store) (flat_map-cons program.wishes_in draft [] ∙ append-nil (program.wishes_in draft)) ∙ one.2;
    }
