-- The core of two stores that agree up to the released items.
use Rattle.std.proofs.Common.{◌≡◌, ℕ, Bool, true, false, cond, List, [], ◌∷◌, ◌++◌, map, Option, Some, None, refl, sym, ap, ◌∙◌}
use Rattle.std.specs.Prelude.{IfSome, is_some, filter, filter_map, flat_map, slice_get}
use Rattle.std.specs.List.{AllByRecursion, cons_option}
use Rattle.std.proofs.lemmas.List.Elements.{recursion_from_All}
use Rattle.std.proofs.lemmas.List.Concat.{flat_map-cons}
use Rattle.mdoc_outside.specs.OptionSteps.{◌>>=◌}
use Rattle.doc_store.specs.Store.{Document, Store}
use Rattle.doc_store.specs.Held.{held, document_place, chosen, Place, place_at, place_of, item_at}
use Rattle.doc_store.specs.Agreement.{Agree}
use Rattle.doc_store.proofs.AgreeLemmas.{same_places, same_presence}
use Rattle.consent.specs.Rules.{approved}
use Rattle.consent.specs.Wish.{Wanted}
use Rattle.consent.specs.declared.rule.Rule.{Rule}
use Rattle.doc_request.specs.declared.doc_draft.DocDraft.{DocDraft}
use Rattle.doc_request.specs.declared.wish_draft.WishDraft.{WishDraft}
use Rattle.doc_response.specs.Answered.{Answered}
use Rattle.mdoc_draft.specs.Core.{item_given, is_missing, full_name, answered, core_bytes, core}
use Rattle.mdoc_draft.specs.Released.{wanted_of, wishes_in, shown_copy, answer, released_place, released_places}

-- ---- lists whose elements are alike

AllByRecursion-append : {X : Type 0} (P : X → Type 0) (xs ys : List X) → AllByRecursion P (xs ++ ys) → AllByRecursion P xs × AllByRecursion P ys
AllByRecursion-append P [] ys all = (tt, all)
AllByRecursion-append P (x ∷ xs) ys all =
    let rest = AllByRecursion-append P xs ys all.1 in
    ((all.0, rest.0), rest.1)

-- what holds of each value that a list gives
filter_map-all : {X Y : Type 0} (P : Y → Type 0) (f : X → Option Y) (xs : List X) → AllByRecursion P (filter_map f xs) → AllByRecursion (λ x. IfSome (f x) P) xs
filter_map-all P f [] all = tt
filter_map-all {X} P f (x ∷ xs) all = (first (f x) all, filter_map-all P f xs (others (f x) all)) where
  first : (o : Option _) → AllByRecursion P (cons_option o (filter_map f xs)) → IfSome o P
  first None h = tt
  first (Some y) h = h.0

  others : (o : Option _) → AllByRecursion P (cons_option o (filter_map f xs)) → AllByRecursion P (filter_map f xs)
  others None h = h
  others (Some y) h = h.1

AllByRecursion-map : {X : Type 0} (P Q : X → Type 0) (xs : List X) → ((x : X) → P x → Q x) → AllByRecursion P xs → AllByRecursion Q xs
AllByRecursion-map P Q [] f all = tt
AllByRecursion-map P Q (x ∷ xs) f all = (f x all.0, AllByRecursion-map P Q xs f all.1)

-- ---- one wish

-- the answer to a wish, by its place
abbrev pub answer_at : List Rule → Option (List ℕ) → Store → Wanted → Option (List ℕ)
answer_at rules reader documents wish = cond (approved rules reader wish) (place_of documents wish.doc_type wish.ns wish.name >>= item_at documents) None

pub answer-place : (rules : List Rule) (reader : Option (List ℕ)) (documents : Store) (wish : Wanted) →
    answer rules reader (shown_copy documents wish.doc_type) wish ≡ answer_at rules reader documents wish
answer-place rules reader documents wish = ap (λ (o : Option (List ℕ)). cond (approved rules reader wish) o None) (by_place (document_place documents wish.doc_type)) where
  by_document : (at : ℕ) (found : Option Document) → slice_get documents at ≡ found →
      ((found >>= λ document. slice_get document.copies (chosen document)) >>= λ copy. held copy wish.ns wish.name)
      ≡ ((found >>= λ document. Some (place_at at (chosen document) wish.ns wish.name)) >>= item_at documents)
  by_document at None e = refl
  by_document at (Some document) e = sym (ap (λ (o : Option Document). o >>= λ d. slice_get d.copies (chosen document) >>= λ copy. held copy wish.ns wish.name) e)

  by_place : (o : Option ℕ) →
      ((o >>= λ at. slice_get documents at >>= λ document. slice_get document.copies (chosen document)) >>= λ copy. held copy wish.ns wish.name)
      ≡ ((o >>= λ at. slice_get documents at >>= λ document. Some (place_at at (chosen document) wish.ns wish.name)) >>= item_at documents)
  by_place None = refl
  by_place (Some at) = by_document at (slice_get documents at) refl

-- one wish is answered alike by two stores that agree
answer-same : (rules : List Rule) (reader : Option (List ℕ)) (one other : Store) (places : List Place) (wish : Wanted) → Agree one other places →
    IfSome (released_place rules reader one wish) (λ place. item_at one place ≡ item_at other place) →
    answer rules reader (shown_copy one wish.doc_type) wish ≡ answer rules reader (shown_copy other wish.doc_type) wish
answer-same rules reader one other places wish agree same =
    answer-place rules reader one wish
    ∙ decide (approved rules reader wish) (place_of one wish.doc_type wish.ns wish.name) same
    ∙ ap (λ (o : Option Place). cond (approved rules reader wish) (o >>= item_at other) None) (same_places one other places agree wish.doc_type wish.ns wish.name)
    ∙ sym (answer-place rules reader other wish) where
      held_same : (place : Place) (x y : Option (List ℕ)) → item_at one place ≡ x → item_at other place ≡ y → is_some x ≡ is_some y →
          IfSome (x >>= λ raw. Some place) (λ p. item_at one p ≡ item_at other p) → x ≡ y
      held_same place (Some raw) y ex ey some same = sym ex ∙ same ∙ ey
      held_same place None None ex ey some same = refl
      held_same place None (Some raw) ex ey some same = absurd cc

      decide : (allowed : Bool) (found : Option Place) →
          IfSome (found >>= λ place. cond allowed (item_at one place) None >>= λ raw. Some place) (λ p. item_at one p ≡ item_at other p) →
          cond allowed (found >>= item_at one) None ≡ cond allowed (found >>= item_at other) None
      decide false found same = refl
      decide true None same = refl
      decide true (Some place) same = held_same place (item_at one place) (item_at other place) refl refl (same_presence one other places agree place) same

-- ---- all wishes

-- wishes that both stores answer alike
AreSame : List Rule → Option (List ℕ) → Store → Store → List Wanted → Type 0
AreSame rules reader one other wishes =
    AllByRecursion (λ (wish : Wanted). answer rules reader (shown_copy one wish.doc_type) wish ≡ answer rules reader (shown_copy other wish.doc_type) wish) wishes

items-same : (rules : List Rule) (reader : Option (List ℕ)) (one other : Store) (doc_type : List ℕ) (wishes : List WishDraft) →
    AreSame rules reader one other (map (wanted_of doc_type) wishes) →
    filter_map (item_given rules reader (shown_copy one doc_type)) (map (wanted_of doc_type) wishes)
    ≡ filter_map (item_given rules reader (shown_copy other doc_type)) (map (wanted_of doc_type) wishes)
unfolding AreSame
items-same rules reader one other doc_type [] same = refl
items-same rules reader one other doc_type (wish ∷ wishes) same = rw (same.0, items-same rules reader one other doc_type wishes same.1) refl

missing-same : (rules : List Rule) (reader : Option (List ℕ)) (one other : Store) (doc_type : List ℕ) (wishes : List WishDraft) →
    AreSame rules reader one other (map (wanted_of doc_type) wishes) →
    filter (is_missing rules reader (shown_copy one doc_type)) (map (wanted_of doc_type) wishes)
    ≡ filter (is_missing rules reader (shown_copy other doc_type)) (map (wanted_of doc_type) wishes)
unfolding AreSame
missing-same rules reader one other doc_type [] same = refl
missing-same rules reader one other doc_type (wish ∷ wishes) same = rw (same.0, missing-same rules reader one other doc_type wishes same.1) refl

abbrev with_parts : List ℕ → List (List ℕ × List ℕ) → List Wanted → Answered
with_parts doc_type items missing = record { doc_type = doc_type; items = items; missing = map full_name missing }

answered-same : (rules : List Rule) (reader : Option (List ℕ)) (one other : Store) (document : DocDraft) →
    AreSame rules reader one other (wishes_in document) → answered rules reader one document ≡ answered rules reader other document
answered-same rules reader one other document same =
    ap (λ (items : List (List ℕ × List ℕ)). with_parts document.doc_type items (filter (is_missing rules reader (shown_copy one document.doc_type)) (wishes_in document)))
    (items-same rules reader one other document.doc_type document.wishes same)
    ∙ ap (λ (missing : List Wanted). with_parts document.doc_type (filter_map (item_given rules reader (shown_copy other document.doc_type)) (wishes_in document)) missing)
    (missing-same rules reader one other document.doc_type document.wishes same)

all-same : (rules : List Rule) (reader : Option (List ℕ)) (one other : Store) (asked : List DocDraft) →
    AreSame rules reader one other (flat_map wishes_in asked) → map (answered rules reader one) asked ≡ map (answered rules reader other) asked
unfolding AreSame
all-same rules reader one other [] same = refl
all-same rules reader one other (document ∷ asked) same =
    let parts = AllByRecursion-append _ (wishes_in document) (flat_map wishes_in asked) (rw flat_map-cons at same) in
    rw (answered-same rules reader one other document parts.0, all-same rules reader one other asked parts.1) refl

-- stores that agree are answered from alike
pub answers_same : (rules : List Rule) (reader : Option (List ℕ)) (one other : Store) (asked : List DocDraft) →
    Agree one other (released_places rules reader one asked) → map (answered rules reader one) asked ≡ map (answered rules reader other) asked
unfolding AreSame
answers_same rules reader one other asked agree =
    let places = released_places rules reader one asked in
    let at_places = recursion_from_All (λ (place : Place). item_at one place ≡ item_at other place) places agree.items in
    let at_wishes = filter_map-all (λ (place : Place). item_at one place ≡ item_at other place) (released_place rules reader one) (flat_map wishes_in asked) at_places in
    let same = AllByRecursion-map _ _ (flat_map wishes_in asked) (λ wish h. answer-same rules reader one other places wish agree h) at_wishes in
    all-same rules reader one other asked same

pub core_same : (rules : List Rule) (reader : Option (List ℕ)) (one other : Store) (asked : List DocDraft) →
    Agree one other (released_places rules reader one asked) → core rules reader one asked ≡ core rules reader other asked
core_same rules reader one other asked agree = ap core_bytes (answers_same rules reader one other asked agree)
