-- The items of the core, the released places, and the agreement of two stores.
use Rattle.std.proofs.Common.{◌≡◌, ℕ, Bool, true, false, cond, List, [], ◌∷◌, ◌++◌, map, Option, Some, None, refl, sym, ap, ◌∙◌}
use Rattle.std.specs.Prelude.{is_some, filter_map, flat_map, option_map}
use Rattle.std.specs.List.{AllByRecursion, cons_option}
use Rattle.std.proofs.lemmas.List.{map-append}
use Rattle.std.proofs.lemmas.List.Elements.{All-nil, All-from_recursion, filter_map-append}
use Rattle.std.proofs.lemmas.List.Concat.{flat_map-cons}
use Rattle.mdoc_outside.specs.OptionSteps.{◌>>=◌}
use Rattle.doc_store.specs.Agreement.{Agree, outline}
use Rattle.doc_store.specs.Held.{Place, item_at, place_of}
use Rattle.doc_store.specs.Store.{Copy, Store}
use Rattle.doc_store.proofs.AgreeLemmas.{same_places, same_presence}
use Rattle.consent.specs.Rules.{approved}
use Rattle.consent.specs.Wish.{Wanted}
use Rattle.consent.specs.declared.rule.Rule.{Rule}
use Rattle.doc_request.specs.declared.doc_draft.DocDraft.{DocDraft}
use Rattle.doc_request.specs.declared.wish_draft.WishDraft.{WishDraft}
use Rattle.mdoc_draft.specs.Core.{answered, item_given, with_namespace}
use Rattle.mdoc_draft.specs.Released.{answer, released, released_place, released_places, shown_copy, wanted_of, wishes_in}
use Rattle.mdoc_draft.specs.ReleasedExactly.{items_in, core_items, released_of, CoreIsReleased, PlacesAreOfCore, AgreementIsLeast}
use Rattle.mdoc_draft.proofs.AgreeLemmas.{answer-place, answers_same}

-- ---- the items of the core

items-given : (rules : List Rule) (reader : Option (List ℕ)) (copy : Option Copy) (wishes : List Wanted) →
    map (λ (pair : List ℕ × List ℕ). pair.1) (filter_map (item_given rules reader copy) wishes) ≡ released rules reader copy wishes
items-given rules reader copy [] = refl
items-given rules reader copy (wish ∷ wishes) = go (answer rules reader copy wish) (items-given rules reader copy wishes) where
  go : (o : Option (List ℕ)) → map (λ (pair : List ℕ × List ℕ). pair.1) (filter_map (item_given rules reader copy) wishes) ≡ released rules reader copy wishes →
      map (λ (pair : List ℕ × List ℕ). pair.1) (cons_option (option_map (with_namespace wish) o) (filter_map (item_given rules reader copy) wishes))
      ≡ cons_option o (released rules reader copy wishes)
  go None rest = rest
  go (Some raw) rest = ap (λ raws. raw ∷ raws) rest

pub core_is_released : CoreIsReleased
core_is_released rules reader documents [] = refl
core_is_released rules reader documents (document ∷ asked) =
    flat_map-cons items_in (answered rules reader documents document) (map (answered rules reader documents) asked)
    ∙ ap (λ items. items ++ core_items rules reader documents asked) (items-given rules reader (shown_copy documents document.doc_type) (wishes_in document))
    ∙ ap (λ items. released_of rules reader documents document ++ items) (core_is_released rules reader documents asked)
    ∙ sym (flat_map-cons (released_of rules reader documents) document asked)

-- ---- their places

-- one wish more, which is answered or isn't
place-one : (documents : Store) (places : List Place) (items : List (List ℕ)) → map (item_at documents) places ≡ map Some items → (allowed : Bool) (found : Option Place) →
    map (item_at documents) (cons_option (found >>= λ place. cond allowed (item_at documents place) None >>= λ raw. Some place) places)
    ≡ map Some (cons_option (cond allowed (found >>= item_at documents) None) items)
place-one documents places items rest false None = rest
place-one documents places items rest false (Some place) = rest
place-one documents places items rest true None = rest
place-one documents places items rest true (Some place) = go (item_at documents place) refl where
  go : (o : Option (List ℕ)) → item_at documents place ≡ o →
      map (item_at documents) (cons_option (o >>= λ raw. Some place) places) ≡ map Some (cons_option o items)
  go None e = rest
  go (Some raw) e = rw (e, rest) refl

-- the places of wishes of one document type
place-each : (rules : List Rule) (reader : Option (List ℕ)) (documents : Store) (doc_type : List ℕ) (wishes : List WishDraft) →
    map (item_at documents) (filter_map (released_place rules reader documents) (map (wanted_of doc_type) wishes))
    ≡ map Some (released rules reader (shown_copy documents doc_type) (map (wanted_of doc_type) wishes))
place-each rules reader documents doc_type [] = refl
place-each rules reader documents doc_type (draft ∷ wishes) =
    let places = filter_map (released_place rules reader documents) (map (wanted_of doc_type) wishes) in
    let items = released rules reader (shown_copy documents doc_type) (map (wanted_of doc_type) wishes) in
    place-one documents places items (place-each rules reader documents doc_type wishes)
    (approved rules reader (wanted_of doc_type draft)) (place_of documents doc_type draft.ns draft.name)
    ∙ sym (ap (λ (o : Option (List ℕ)). map Some (cons_option o items)) (answer-place rules reader documents (wanted_of doc_type draft)))

places-released : (rules : List Rule) (reader : Option (List ℕ)) (documents : Store) (asked : List DocDraft) →
    map (item_at documents) (released_places rules reader documents asked) ≡ map Some (flat_map (released_of rules reader documents) asked)
places-released rules reader documents [] = refl
places-released rules reader documents (document ∷ asked) =
    let place = released_place rules reader documents in
    ap (λ wishes. map (item_at documents) (filter_map place wishes)) (flat_map-cons wishes_in document asked)
    ∙ ap (map (item_at documents)) (filter_map-append place (wishes_in document) (flat_map wishes_in asked))
    ∙ map-append (item_at documents) (filter_map place (wishes_in document)) (filter_map place (flat_map wishes_in asked))
    ∙ ap (λ items. items ++ map (item_at documents) (filter_map place (flat_map wishes_in asked))) (place-each rules reader documents document.doc_type document.wishes)
    ∙ ap (λ items. map Some (released_of rules reader documents document) ++ items) (places-released rules reader documents asked)
    ∙ sym (map-append Some (released_of rules reader documents document) (flat_map (released_of rules reader documents) asked))
    ∙ sym (ap (map Some) (flat_map-cons (released_of rules reader documents) document asked))

pub places_are_of_core : PlacesAreOfCore
places_are_of_core rules reader documents asked =
    places-released rules reader documents asked ∙ ap (map Some) (sym (core_is_released rules reader documents asked))

-- ---- stores that agree

-- stores of equal outlines release the same places
place-same : (rules : List Rule) (reader : Option (List ℕ)) (one other : Store) (wish : Wanted) → Agree one other [] →
    released_place rules reader one wish ≡ released_place rules reader other wish
place-same rules reader one other wish agree =
    decide (approved rules reader wish) (place_of one wish.doc_type wish.ns wish.name)
    ∙ ap (λ (o : Option Place). o >>= λ place. cond (approved rules reader wish) (item_at other place) None >>= λ raw. Some place) (same_places one other [] agree wish.doc_type wish.ns wish.name) where
      both : (place : Place) (x y : Option (List ℕ)) → is_some x ≡ is_some y → ◌≡◌ {A = Option Place} (x >>= λ raw. Some place) (y >>= λ raw. Some place)
      both place None None same = refl
      both place (Some raw) (Some other_raw) same = refl
      both place None (Some raw) same = cc
      both place (Some raw) None same = cc

      decide : (allowed : Bool) (found : Option Place) →
          (found >>= λ place. cond allowed (item_at one place) None >>= λ raw. Some place)
          ≡ (found >>= λ place. cond allowed (item_at other place) None >>= λ raw. Some place)
      decide false None = refl
      decide false (Some place) = refl
      decide true None = refl
      decide true (Some place) = both place (item_at one place) (item_at other place) (same_presence one other [] agree place)

all-places-same : (rules : List Rule) (reader : Option (List ℕ)) (one other : Store) (wishes : List Wanted) → Agree one other [] →
    filter_map (released_place rules reader one) wishes ≡ filter_map (released_place rules reader other) wishes
all-places-same rules reader one other [] agree = refl
all-places-same rules reader one other (wish ∷ wishes) agree =
    rw (place-same rules reader one other wish agree, all-places-same rules reader one other wishes agree) refl

equal-each : {A B : Type 0} (f g : A → B) (xs : List A) → map f xs ≡ map g xs → AllByRecursion (λ x. f x ≡ g x) xs
equal-each f g [] same = tt
equal-each f g (x ∷ xs) same = (cc, equal-each f g xs cc)

-- equal items of the core are equal items at the places
same-items : (rules : List Rule) (reader : Option (List ℕ)) (one other : Store) (asked : List DocDraft) → map outline one ≡ map outline other →
    core_items rules reader one asked ≡ core_items rules reader other asked → Agree one other (released_places rules reader one asked)
same-items rules reader one other asked outlines items =
    let agree : Agree one other [] = record { outlines = outlines; items = All-nil _ } in
    let places = all-places-same rules reader one other (flat_map wishes_in asked) agree in
    let same : map (item_at one) (released_places rules reader one asked) ≡ map (item_at other) (released_places rules reader one asked) =
    places_are_of_core rules reader one asked ∙ ap (map Some) items ∙ sym (places_are_of_core rules reader other asked)
    ∙ ap (map (item_at other)) (sym places) in
    record {
      outlines = outlines;
      items = All-from_recursion (λ (place : Place). item_at one place ≡ item_at other place) (released_places rules reader one asked)
          (equal-each (item_at one) (item_at other) (released_places rules reader one asked) same);
    }

pub agreement_is_least : AgreementIsLeast
agreement_is_least rules reader one other asked outlines = (
  λ agree. ap (flat_map items_in) (answers_same rules reader one other asked agree),
  same-items rules reader one other asked outlines,
)
