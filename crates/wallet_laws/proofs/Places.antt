-- The places of what is chosen are those of its items.
use Rattle.std.proofs.Common.{◌≡◌, ℕ, List, [], ◌∷◌, ◌++◌, Bool, true, false, cond, map, Option, Some, None, refl, sym, ◌∙◌, ap, subst}
use Rattle.std.specs.Prelude.{option_map, slice_get, unwrap_or}
use Rattle.std.specs.List.{AllByRecursion, cons_option, flat_map}
use Rattle.std.specs.Bool.{Decides}
use Rattle.std.specs.Str.{bytes_eq}
use Rattle.std.proofs.lemmas.List.{map-append}
use Rattle.std.proofs.lemmas.List.Concat.{flat_map-cons}
use Rattle.std.proofs.lemmas.List.Quantifiers.{position-Some}
use Rattle.std.proofs.lemmas.Option.{get_or_from_slice_get}
use Rattle.std.proofs.lemmas.Slice.Eq.{bytes_eq-Decides}
use Rattle.mdoc_outside.specs.OptionSteps.{◌>>=◌}
use Rattle.consent.specs.Rules.{approved}
use Rattle.consent.specs.Wish.{Wanted}
use Rattle.doc_request.specs.Asked.{Document}
use Rattle.doc_response.specs.Answered.{Answered}
use Rattle.doc_store.specs.Held.{document_place, held, is_of_type, item_at, place_at}
use Rattle.doc_store.specs.Store.{Copy, Document as Stored}
use Rattle.wallet_model.specs.Answer.{places_of}
use Rattle.wallet_model.specs.Released.{ReleasedDocument, ReleasedItem, ShownCopy, choice, choice_of, choice_with, choices, item_for, item_of, named, place_in, refused, released, selections, shown_copy, stored_place, wishes_of}
use Rattle.wallet_model.specs.Setup.{Setup}
use Rattle.wallet_model.specs.declared.released_at.ReleasedAt.{ReleasedAt}
use Rattle.wallet_model.proofs.Always.{some_same}
use Rattle.wallet_laws.specs.Exactly.{ArePlacesOf, ReturnedItem, chosen, item_there, items_in, items_of, returned_item}

-- ---- steps that gave a value

record Step {A B : Type 0} (o : Option A) (next : A → Option B) (y : B) : Type 0 where
  value : A
  is : o ≡ Some value
  after : next value ≡ Some y

step : {A B : Type 0} (o : Option A) (next : A → Option B) (y : B) → (o >>= next) ≡ Some y → Step o next y
step None next y e = absurd (cc)
step (Some x) next y e = record { value = x; is = refl; after = e }

-- ---- the copy that is shown

-- where the copy that is shown stands
pub record ShownAt (W : Setup) (doc_type : List ℕ) (shown : ShownCopy) : Type 0 where
  pub document : Stored
  pub place : ℕ
  pub found : document_place W.store doc_type ≡ Some shown.document
  pub there : slice_get W.store shown.document ≡ Some document
  pub of_type : document.doc_type ≡ doc_type
  pub choice : slice_get W.choice shown.document ≡ Some place
  pub copy : slice_get document.copies place ≡ Some shown.copy

abbrev with_copy : ℕ → Bool → Copy → Option ShownCopy
with_copy at uses_mac copy = Some (record { document = at; uses_mac = uses_mac; copy = copy })

abbrev from_choice : ℕ → Stored → ℕ → Option ShownCopy
from_choice at document place = slice_get document.copies place >>= with_copy at document.uses_mac

abbrev from_document : Setup → ℕ → Stored → Option ShownCopy
from_document W at document = slice_get W.choice at >>= from_choice at document

abbrev from_place : Setup → ℕ → Option ShownCopy
from_place W at = slice_get W.store at >>= from_document W at

has_type : (W : Setup) (doc_type : List ℕ) (at : ℕ) (document : Stored) → document_place W.store doc_type ≡ Some at → slice_get W.store at ≡ Some document → document.doc_type ≡ doc_type
has_type W doc_type at document place there =
    let found = position-Some (is_of_type doc_type) W.store at document place in
    let same = get_or_from_slice_get W.store at document document there in
    let decided : Decides (bytes_eq document.doc_type doc_type) (document.doc_type ≡ doc_type) = bytes_eq-Decides document.doc_type doc_type in
    decided.0 (subst (λ (d : Stored). bytes_eq d.doc_type doc_type ≡ true) same found.1)

pub shown_at : (W : Setup) (doc_type : List ℕ) (shown : ShownCopy) → shown_copy W doc_type ≡ Some shown → ShownAt W doc_type shown
shown_at W doc_type shown is =
    let at = step (document_place W.store doc_type) (from_place W) shown is in
    let document = step (slice_get W.store at.value) (from_document W at.value) shown at.after in
    let place = step (slice_get W.choice at.value) (from_choice at.value document.value) shown document.after in
    let copy = step (slice_get document.value.copies place.value) (with_copy at.value document.value.uses_mac) shown place.after in
    subst (ShownAt W doc_type) (some_same (record { document = at.value; uses_mac = document.value.uses_mac; copy = copy.value }) shown copy.after) (record {
      document = document.value;
      place = place.value;
      found = at.is;
      there = document.is;
      of_type = has_type W doc_type at.value document.value at.is document.is;
      choice = place.is;
      copy = copy.is;
    })

-- ---- an item at its place

abbrev with_raw : List ℕ → List ℕ → List ℕ → Option ReturnedItem
with_raw doc_type ns raw = Some (returned_item doc_type (ns, raw))

one_place : (W : Setup) (doc_type : List ℕ) (shown : ShownCopy) → ShownAt W doc_type shown → (ns name raw : List ℕ)
    → held shown.copy ns name ≡ Some raw → item_there W (record { document = shown.document; ns = ns; name = name }) ≡ with_raw doc_type ns raw
one_place W doc_type shown at ns name raw is =
    let stored : stored_place W (record { document = shown.document; ns = ns; name = name }) ≡ place_at shown.document at.place ns name =
    ap (λ (o : Option ℕ). place_at shown.document (unwrap_or o 0) ns name) at.choice in
    let there : item_at W.store (place_at shown.document at.place ns name) ≡ Some raw =
    ap (λ (o : Option Stored). o >>= λ document. slice_get document.copies at.place >>= λ copy. held copy ns name) at.there
    ∙ ap (λ (o : Option Copy). o >>= λ copy. held copy ns name) at.copy
    ∙ is in
    ap (λ (o : Option Stored). o >>= λ document. item_at W.store (stored_place W (record { document = shown.document; ns = ns; name = name })) >>= with_raw document.doc_type ns) at.there
    ∙ ap (λ (o : Option (List ℕ)). o >>= with_raw at.document.doc_type ns) (ap (item_at W.store) stored ∙ there)
    ∙ ap (λ (t : List ℕ). with_raw t ns raw) at.of_type

-- what is released of it, at its places
abbrev AreThere : Setup → List ℕ → ℕ → List ReleasedItem → Type 0
AreThere W doc_type document items = map (item_there W) (map (place_in document) items) ≡ map Some (map (returned_item doc_type) (map item_of items))

was_held : (allowed : Bool) (found : Option (List ℕ)) (raw : List ℕ) → cond allowed found None ≡ Some raw → found ≡ Some raw
was_held true found raw is = is
was_held false found raw is = cc

each_place : (W : Setup) (doc_type : List ℕ) (shown : ShownCopy) → ShownAt W doc_type shown → (reader : Option (List ℕ)) (wishes : List Wanted)
    → AreThere W doc_type shown.document (released W.rules reader shown.copy wishes)
each_place W doc_type shown at reader [] = refl
each_place W doc_type shown at reader (wish ∷ wishes) =
    go (item_for W.rules reader shown.copy wish) refl (each_place W doc_type shown at reader wishes) where
      go : (found : Option (List ℕ)) → item_for W.rules reader shown.copy wish ≡ found → AreThere W doc_type shown.document (released W.rules reader shown.copy wishes)
          → AreThere W doc_type shown.document (cons_option (option_map (named wish) found) (released W.rules reader shown.copy wishes))
      go None is rest = rest
      go (Some raw) is rest =
          let there = one_place W doc_type shown at wish.ns wish.name raw (was_held (approved W.rules reader wish) (held shown.copy wish.ns wish.name) raw is) in
          ap (λ (found : Option ReturnedItem). found ∷ map (item_there W) (map (place_in shown.document) (released W.rules reader shown.copy wishes))) there
          ∙ ap (λ (found : List (Option ReturnedItem)). with_raw doc_type wish.ns raw ∷ found) rest

-- ---- what is chosen

abbrev IsPlaced : Setup → ReleasedDocument → Type 0
IsPlaced W c = map (item_there W) c.places ≡ map Some (items_in c.answered)

abbrev IfChoice : (ReleasedDocument → Type 0) → Option ReleasedDocument → Type 0
IfChoice P None = Unit {0}
IfChoice P (Some c) = P c

with_items : (W : Setup) (doc_type : List ℕ) (shown : ShownCopy) (missing : List (List ℕ × List ℕ)) (items : List ReleasedItem)
    → AreThere W doc_type shown.document items → IfChoice (IsPlaced W) (choice_with doc_type shown missing items)
with_items W doc_type shown missing [] all = tt
with_items W doc_type shown missing (item ∷ items) all = all

choice_placed : (W : Setup) (reader : Option (List ℕ)) (asked : Document) → IfChoice (IsPlaced W) (choice W reader asked)
choice_placed W reader asked = go (shown_copy W asked.doc_type) refl where
  go : (found : Option ShownCopy) → shown_copy W asked.doc_type ≡ found → IfChoice (IsPlaced W) (found >>= choice_of W.rules reader asked)
  go None is = tt
  go (Some shown) is =
      with_items W asked.doc_type shown (refused W.rules reader shown.copy (wishes_of asked)) (released W.rules reader shown.copy (wishes_of asked))
      (each_place W asked.doc_type shown (shown_at W asked.doc_type shown is) reader (wishes_of asked))

add_choice : (P : ReleasedDocument → Type 0) (found : Option ReleasedDocument) (list : List ReleasedDocument) → IfChoice P found → AllByRecursion P list → AllByRecursion P (cons_option found list)
add_choice P None list is all = all
add_choice P (Some c) list is all = (is, all)

choices_placed : (W : Setup) (documents : List Document) (readers : List (Option (List ℕ))) → AllByRecursion (IsPlaced W) (choices (selections W documents readers))
choices_placed W [] readers = tt
choices_placed W (document ∷ documents) [] = tt
choices_placed W (document ∷ documents) (reader ∷ readers) =
    add_choice (IsPlaced W) (choice W reader document) (choices (selections W documents readers)) (choice_placed W reader document) (choices_placed W documents readers)

abbrev pub answered_of : ReleasedDocument → Answered
answered_of c = c.answered

abbrev places_in : ReleasedDocument → List ReleasedAt
places_in c = c.places

all_placed : (W : Setup) (list : List ReleasedDocument) → AllByRecursion (IsPlaced W) list
    → map (item_there W) (flat_map places_in list) ≡ map Some (flat_map items_in (map answered_of list))
all_placed W [] all = refl
all_placed W (c ∷ list) all =
    ap (map (item_there W)) (flat_map-cons places_in c list)
    ∙ map-append (item_there W) c.places (flat_map places_in list)
    ∙ ap (λ (found : List (Option ReturnedItem)). found ++ map (item_there W) (flat_map places_in list)) all.0
    ∙ ap (λ (found : List (Option ReturnedItem)). map Some (items_in c.answered) ++ found) (all_placed W list all.1)
    ∙ sym (map-append Some (items_in c.answered) (flat_map items_in (map answered_of list)))
    ∙ sym (ap (map Some) (flat_map-cons items_in c.answered (map answered_of list)))

pub are_places : (W : Setup) (documents : List Document) (readers : List (Option (List ℕ)))
    → ArePlacesOf W (items_of (chosen W documents readers)) (places_of (selections W documents readers))
are_places W documents readers = all_placed W (choices (selections W documents readers)) (choices_placed W documents readers)
