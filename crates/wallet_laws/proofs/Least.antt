-- Stores of equal outlines agree up to what is released exactly where equal items are chosen of them.
use Rattle.std.proofs.Common.{◌≡◌, inl, inr, ℕ, List, [], ◌∷◌, ◌++◌, Bool, true, false, cond, map, Option, Some, None, refl, sym, ◌∙◌, ap}
use Rattle.std.specs.Prelude.{is_some, option_map, slice_get}
use Rattle.std.specs.List.{AllByRecursion, cons_option, flat_map}
use Rattle.std.proofs.lemmas.List.Concat.{flat_map-cons}
use Rattle.std.proofs.lemmas.List.Elements.{All-from_recursion, All-nil, recursion_from_All}
use Rattle.std.proofs.lemmas.Option.{slice_get-map}
use Rattle.mdoc_outside.specs.OptionSteps.{◌>>=◌}
use Rattle.consent.specs.Rules.{approved}
use Rattle.consent.specs.Wish.{Wanted}
use Rattle.consent.specs.declared.rule.Rule.{Rule}
use Rattle.doc_request.specs.Asked.{Document}
use Rattle.doc_store.specs.Agreement.{Agree}
use Rattle.doc_store.specs.Held.{Place, held, item_at, place_at}
use Rattle.doc_store.specs.Store.{Copy, Document as Stored, Store}
use Rattle.doc_store.proofs.AgreeLemmas.{same_presence}
use Rattle.wallet_model.specs.Agreement.{DocumentFrame, frame}
use Rattle.wallet_model.specs.Answer.{places_of}
use Rattle.wallet_model.specs.Released.{ReleasedDocument, ReleasedItem, ShownCopy, choice, choice_of, choice_with, choices, named, place_in, refused, released, selections, stored_place, wishes_of}
use Rattle.wallet_model.specs.Setup.{Setup, with_store}
use Rattle.wallet_model.specs.declared.released_at.ReleasedAt.{ReleasedAt}
use Rattle.wallet_model.proofs.Always.{some_same}
use Rattle.wallet_model.proofs.RoundsAlike.{agree_implies}
use Rattle.wallet_model.proofs.ShownAlike.{ShowAlike, show_alike}
use Rattle.wallet_laws.specs.Exactly.{ReturnedItem, chosen, item_there, items_of, returned_item}
use Rattle.wallet_laws.specs.Least.{AgreementIsLeast}
use Rattle.wallet_laws.proofs.Places.{are_places}

-- ---- the same places

places_same : (document : ℕ) (rules : List Rule) (reader : Option (List ℕ)) (one other : Copy) (wishes : List Wanted)
    → ((ns name : List ℕ) → is_some (held one ns name) ≡ is_some (held other ns name))
    → map (place_in document) (released rules reader one wishes) ≡ map (place_in document) (released rules reader other wishes)
places_same document rules reader one other [] alike = refl
places_same document rules reader one other (wish ∷ wishes) alike =
    go (approved rules reader wish) (held one wish.ns wish.name) (held other wish.ns wish.name) (alike wish.ns wish.name) (places_same document rules reader one other wishes alike)
  where
    go : (allowed : Bool) (x y : Option (List ℕ)) → is_some x ≡ is_some y
        → map (place_in document) (released rules reader one wishes) ≡ map (place_in document) (released rules reader other wishes)
        → map (place_in document) (cons_option (option_map (named wish) (cond allowed x None)) (released rules reader one wishes))
        ≡ map (place_in document) (cons_option (option_map (named wish) (cond allowed y None)) (released rules reader other wishes))
    go false x y same rest = rest
    go true None None same rest = rest
    go true (Some x) (Some y) same rest = ap (λ (places : List ReleasedAt). record { document = document; ns = wish.ns; name = wish.name } ∷ places) rest
    go true None (Some y) same rest = cc
    go true (Some x) None same rest = cc

abbrev places_in : Option ReleasedDocument → List ReleasedAt
places_in None = []
places_in (Some found) = found.places

places_with : (doc_type : List ℕ) (shown : ShownCopy) (missing : List (List ℕ × List ℕ)) (items : List ReleasedItem)
    → places_in (choice_with doc_type shown missing items) ≡ map (place_in shown.document) items
places_with doc_type shown missing [] = refl
places_with doc_type shown missing (item ∷ items) = refl

abbrev places_shown : Setup → Option (List ℕ) → Document → Option ShownCopy → List ReleasedAt
places_shown W reader asked found = places_in (found >>= choice_of W.rules reader asked)

places_of_shown : (W : Setup) (reader : Option (List ℕ)) (asked : Document) (shown : ShownCopy)
    → places_shown W reader asked (Some shown) ≡ map (place_in shown.document) (released W.rules reader shown.copy (wishes_of asked))
places_of_shown W reader asked shown =
    places_with asked.doc_type shown (refused W.rules reader shown.copy (wishes_of asked)) (released W.rules reader shown.copy (wishes_of asked))

choice_places : (W : Setup) (other : Store) (reader : Option (List ℕ)) (asked : Document) → Agree W.store other [] → ShowAlike W other asked.doc_type
    → places_in (choice W reader asked) ≡ places_in (choice (with_store W other) reader asked)
choice_places W other reader asked agree (inl neither) =
    ap (places_shown W reader asked) neither.is_first ∙ sym (ap (places_shown W reader asked) neither.is_second)
choice_places W other reader asked agree (inr both) =
    let alike : (ns name : List ℕ) → is_some (held both.first.copy ns name) ≡ is_some (held both.second.copy ns name) =
    λ ns name. sym (ap (λ (o : Option (List ℕ)). is_some o) (both.held_first ns name))
    ∙ same_presence W.store other [] agree (place_at both.first.document both.place ns name)
    ∙ ap (λ (o : Option (List ℕ)). is_some o) (both.held_second ns name) in
    ap (places_shown W reader asked) both.is_first
    ∙ places_of_shown W reader asked both.first
    ∙ places_same both.first.document W.rules reader both.first.copy both.second.copy (wishes_of asked) alike
    ∙ ap (λ (document : ℕ). map (place_in document) (released W.rules reader both.second.copy (wishes_of asked))) (sym both.same_document)
    ∙ sym (places_of_shown W reader asked both.second)
    ∙ sym (ap (places_shown W reader asked) both.is_second)

abbrev of_choice : ReleasedDocument → List ReleasedAt
of_choice found = found.places

places_first : (found : Option ReleasedDocument) (list : List ReleasedDocument) → flat_map of_choice (cons_option found list) ≡ places_in found ++ flat_map of_choice list
places_first None list = refl
places_first (Some found) list = flat_map-cons of_choice found list

all_places : (W : Setup) (other : Store) (documents : List Document) (readers : List (Option (List ℕ))) → Agree W.store other [] → map frame W.store ≡ map frame other
    → places_of (selections W documents readers) ≡ places_of (selections (with_store W other) documents readers)
all_places W other [] readers agree frames = refl
all_places W other (asked ∷ documents) [] agree frames = refl
all_places W other (asked ∷ documents) (reader ∷ readers) agree frames =
    places_first (choice W reader asked) (choices (selections W documents readers))
    ∙ ap (λ (places : List ReleasedAt). places ++ places_of (selections W documents readers)) (choice_places W other reader asked agree (show_alike W other asked.doc_type frames))
    ∙ ap (λ (places : List ReleasedAt). places_in (choice (with_store W other) reader asked) ++ places) (all_places W other documents readers agree frames)
    ∙ sym (places_first (choice (with_store W other) reader asked) (choices (selections (with_store W other) documents readers)))

-- ---- the items at the places

abbrev item_of : Option Stored → Option (List ℕ) → List ℕ → Option ReturnedItem
item_of document found ns = document >>= λ d. found >>= λ raw. Some (returned_item d.doc_type (ns, raw))

item_same : (d e : Option Stored) (x y : Option (List ℕ)) (ns : List ℕ) → option_map frame d ≡ option_map frame e → x ≡ y → item_of d x ns ≡ item_of e y ns
item_same None None x y ns same is = refl
item_same None (Some e) x y ns same is = cc
item_same (Some d) None x y ns same is = cc
item_same (Some d) (Some e) x y ns same is =
    let type : d.doc_type ≡ e.doc_type = ap (λ (f : DocumentFrame). f.doc_type) (some_same (frame d) (frame e) same) in
    ap (λ (found : Option (List ℕ)). item_of (Some d) found ns) is
    ∙ ap (λ (t : List ℕ). y >>= λ raw. Some (returned_item t (ns, raw))) type

raw_same : (d e : Option Stored) (x y : Option (List ℕ)) (ns : List ℕ) (i : ReturnedItem) → item_of d x ns ≡ Some i → item_of e y ns ≡ Some i → x ≡ y
raw_same (Some d) (Some e) (Some r) (Some s) ns i first second =
    let one : r ≡ i.raw = ap (λ (z : ReturnedItem). z.raw) (some_same (returned_item d.doc_type (ns, r)) i first) in
    let other : s ≡ i.raw = ap (λ (z : ReturnedItem). z.raw) (some_same (returned_item e.doc_type (ns, s)) i second) in
    ap Some (one ∙ sym other)
raw_same None e x y ns i first second = absurd (cc)
raw_same (Some d) None x y ns i first second = absurd (cc)
raw_same (Some d) (Some e) None y ns i first second = absurd (cc)
raw_same (Some d) (Some e) (Some r) None ns i first second = absurd (cc)

-- equal documents at a place but for their items
document_same : (W : Setup) (other : Store) (at : ℕ) → map frame W.store ≡ map frame other → option_map frame (slice_get W.store at) ≡ option_map frame (slice_get other at)
document_same W other at frames =
    sym (slice_get-map frame W.store at) ∙ ap (λ (list : List DocumentFrame). slice_get list at) frames ∙ slice_get-map frame other at

abbrev IsSame : Store → Store → Place → Type 0
IsSame one other place = item_at one place ≡ item_at other place

items_there : (W : Setup) (other : Store) (places : List ReleasedAt) → map frame W.store ≡ map frame other → AllByRecursion (IsSame W.store other) (map (stored_place W) places)
    → map (item_there W) places ≡ map (item_there (with_store W other)) places
items_there W other [] frames same = refl
items_there W other (p ∷ places) frames same =
    let one : item_there W p ≡ item_there (with_store W other) p =
    item_same (slice_get W.store p.document) (slice_get other p.document) (item_at W.store (stored_place W p)) (item_at other (stored_place W p)) p.ns (document_same W other p.document frames) same.0 in
    ap (λ (found : Option ReturnedItem). found ∷ map (item_there W) places) one
    ∙ ap (λ (found : List (Option ReturnedItem)). item_there (with_store W other) p ∷ found) (items_there W other places frames same.1)

there_same : (W : Setup) (other : Store) (places : List ReleasedAt) (items : List ReturnedItem) → map (item_there W) places ≡ map Some items → map (item_there (with_store W other)) places ≡ map Some items
    → AllByRecursion (IsSame W.store other) (map (stored_place W) places)
there_same W other [] items first second = tt
there_same W other (p ∷ places) [] first second = absurd (cc)
there_same W other (p ∷ places) (i ∷ items) first second =
    let one : item_there W p ≡ Some i = cc in
    let two : item_there (with_store W other) p ≡ Some i = cc in
    let rest : map (item_there W) places ≡ map Some items = cc in
    let rest_two : map (item_there (with_store W other)) places ≡ map Some items = cc in (
      raw_same (slice_get W.store p.document) (slice_get other p.document) (item_at W.store (stored_place W p)) (item_at other (stored_place W p)) p.ns i one two,
      there_same W other places items rest rest_two,
    )

lists_same : (one other : List ReturnedItem) → ◌≡◌ {A = List (Option ReturnedItem)} (map Some one) (map Some other) → one ≡ other
lists_same [] [] same = refl
lists_same [] (y ∷ other) same = cc
lists_same (x ∷ one) [] same = cc
lists_same (x ∷ one) (y ∷ other) same =
    let head : ◌≡◌ {A = Option ReturnedItem} (Some x) (Some y) = cc in
    let rest : ◌≡◌ {A = List (Option ReturnedItem)} (map Some one) (map Some other) = cc in
    ap (λ (i : ReturnedItem). i ∷ one) (some_same x y head) ∙ ap (λ (items : List ReturnedItem). y ∷ items) (lists_same one other rest)

-- ---- the law

pub agreement_is_least : AgreementIsLeast
agreement_is_least W other documents readers outlines =
    let W' = with_store W other in
    let agree : Agree W.store other [] = record { outlines = outlines; items = All-nil _ } in
    let frames = (agree_implies W.store other W.rules W.readers [] agree).frames in
    let places = places_of (selections W documents readers) in
    let first = are_places W documents readers in
    let second : map (item_there W') places ≡ map Some (items_of (chosen W' documents readers)) =
    ap (map (item_there W')) (all_places W other documents readers agree frames) ∙ are_places W' documents readers in (
      λ agreed.
          lists_same (items_of (chosen W documents readers)) (items_of (chosen W' documents readers))
          (sym first ∙ items_there W other places frames (recursion_from_All (IsSame W.store other) (map (stored_place W) places) agreed.items) ∙ second),
      λ items. record {
        outlines = outlines;
        items = All-from_recursion (IsSame W.store other) (map (stored_place W) places)
            (there_same W other places (items_of (chosen W documents readers)) first (second ∙ ap (map Some) (sym items)));
      },
    )
