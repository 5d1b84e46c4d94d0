-- The copies that two wallets show whose stores are equal but for their items.
use Rattle.std.proofs.Common.{◌≡◌, ◌⊎◌, inl, inr, ℕ, List, [], ◌∷◌, Bool, map, Option, Some, None, refl, sym, ◌∙◌, ap}
use Rattle.std.specs.Prelude.{option_map, position, slice_get}
use Rattle.std.specs.List.{position_or_len}
use Rattle.std.specs.Str.{bytes_eq}
use Rattle.std.proofs.lemmas.List.{length-map}
use Rattle.std.proofs.lemmas.Option.{slice_get-map}
use Rattle.mdoc_outside.specs.OptionSteps.{◌>>=◌}
use Rattle.doc_store.specs.Held.{document_place, held, item_at, place_at}
use Rattle.doc_store.specs.Store.{Copy, Document, Store}
use Rattle.wallet_model.specs.Agreement.{DocumentFrame, copy_frame, frame}
use Rattle.wallet_model.specs.Released.{ShownCopy, shown_copy}
use Rattle.wallet_model.specs.Setup.{Setup, with_store}
use Rattle.wallet_model.proofs.Always.{some_same}

-- ---- a search through a map

prefix-map : {A B : Type 0} (f : A → B) (p : B → Bool) (xs : List A) → position_or_len (λ x. p (f x)) xs ≡ position_or_len p (map f xs)
prefix-map f p [] = refl
prefix-map f p (x ∷ xs) = rw (prefix-map f p xs) refl

position-map : {A B : Type 0} (f : A → B) (p : B → Bool) (xs : List A) → position (λ x. p (f x)) xs ≡ position p (map f xs)
position-map f p xs = rw (prefix-map f p xs, length-map xs f) refl

abbrev type_test : List ℕ → DocumentFrame → Bool
type_test doc_type document = bytes_eq document.doc_type doc_type

same_place : (one other : Store) (doc_type : List ℕ) → map frame one ≡ map frame other → document_place one doc_type ≡ document_place other doc_type
same_place one other doc_type frames =
    position-map frame (type_test doc_type) one ∙ ap (position (type_test doc_type)) frames ∙ sym (position-map frame (type_test doc_type) other)

same_at : {A B : Type 0} (f : A → B) (one other : List A) (at : ℕ) → map f one ≡ map f other → option_map f (slice_get one at) ≡ option_map f (slice_get other at)
same_at {A} {B} f one other at same = sym (slice_get-map f one at) ∙ ap (λ (list : List B). slice_get list at) same ∙ slice_get-map f other at

-- ---- the steps to a copy

abbrev after_copy : ℕ → Bool → Option Copy → Option ShownCopy
after_copy at uses_mac found = found >>= λ copy. Some (record { document = at; uses_mac = uses_mac; copy = copy })

abbrev after_choice : ℕ → Document → Option ℕ → Option ShownCopy
after_choice at document found = found >>= λ place. after_copy at document.uses_mac (slice_get document.copies place)

abbrev after_document : List ℕ → ℕ → Option Document → Option ShownCopy
after_document choice at found = found >>= λ document. after_choice at document (slice_get choice at)

abbrev after_place : Store → List ℕ → Option ℕ → Option ShownCopy
after_place store choice found = found >>= λ at. after_document choice at (slice_get store at)

-- what is held there
abbrev held_in : List ℕ → List ℕ → Option Copy → Option (List ℕ)
held_in ns name found = found >>= λ copy. held copy ns name

abbrev held_by : ℕ → List ℕ → List ℕ → Option Document → Option (List ℕ)
held_by place ns name found = found >>= λ document. held_in ns name (slice_get document.copies place)

-- ---- both wallets

-- Both show a copy, alike but for the items.
pub record ShowBoth (W : Setup) (other : Store) (doc_type : List ℕ) : Type 0 where
  pub first : ShownCopy
  pub second : ShownCopy
  pub is_first : shown_copy W doc_type ≡ Some first
  pub is_second : shown_copy (with_store W other) doc_type ≡ Some second
  pub same_document : second.document ≡ first.document
  pub same_mac : second.uses_mac ≡ first.uses_mac
  pub same_copy : copy_frame second.copy ≡ copy_frame first.copy
  pub place : ℕ
  pub is_place : document_place W.store doc_type ≡ Some first.document
  pub is_choice : slice_get W.choice first.document ≡ Some place
  pub held_first : (ns name : List ℕ) → item_at W.store (place_at first.document place ns name) ≡ held first.copy ns name
  pub held_second : (ns name : List ℕ) → item_at other (place_at first.document place ns name) ≡ held second.copy ns name

-- Neither does.
pub record ShowNeither (W : Setup) (other : Store) (doc_type : List ℕ) : Type 0 where
  pub is_first : shown_copy W doc_type ≡ None
  pub is_second : shown_copy (with_store W other) doc_type ≡ None

abbrev pub ShowAlike : Setup → Store → List ℕ → Type 0
ShowAlike W other doc_type = ShowNeither W other doc_type ⊎ ShowBoth W other doc_type

-- documents that are found at a place of both
record Found (W : Setup) (other : Store) (doc_type : List ℕ) : Type 0 where
  at : ℕ
  one : Document
  two : Document
  is_at : document_place W.store doc_type ≡ Some at
  is_at_other : document_place other doc_type ≡ Some at
  is_one : slice_get W.store at ≡ Some one
  is_two : slice_get other at ≡ Some two
  same : frame one ≡ frame two

by_copies : (W : Setup) (other : Store) (doc_type : List ℕ) (f : Found W other doc_type) (place : ℕ) (c d : Option Copy)
    → slice_get W.choice f.at ≡ Some place → slice_get f.one.copies place ≡ c → slice_get f.two.copies place ≡ d
    → option_map copy_frame c ≡ option_map copy_frame d → ShowAlike W other doc_type
by_copies W other doc_type f place None None is_choice is_c is_d same = inl (record {
  is_first = ap (after_place W.store W.choice) f.is_at ∙ ap (after_document W.choice f.at) f.is_one ∙ ap (after_choice f.at f.one) is_choice ∙ ap (after_copy f.at f.one.uses_mac) is_c;
  is_second = ap (after_place other W.choice) f.is_at_other ∙ ap (after_document W.choice f.at) f.is_two ∙ ap (after_choice f.at f.two) is_choice ∙ ap (after_copy f.at f.two.uses_mac) is_d;
})
by_copies W other doc_type f place (Some c) None is_choice is_c is_d same = cc
by_copies W other doc_type f place None (Some d) is_choice is_c is_d same = cc
by_copies W other doc_type f place (Some c) (Some d) is_choice is_c is_d same = inr (record {
  first = record { document = f.at; uses_mac = f.one.uses_mac; copy = c };
  second = record { document = f.at; uses_mac = f.two.uses_mac; copy = d };
  is_first = ap (after_place W.store W.choice) f.is_at ∙ ap (after_document W.choice f.at) f.is_one ∙ ap (after_choice f.at f.one) is_choice ∙ ap (after_copy f.at f.one.uses_mac) is_c;
  is_second = ap (after_place other W.choice) f.is_at_other ∙ ap (after_document W.choice f.at) f.is_two ∙ ap (after_choice f.at f.two) is_choice ∙ ap (after_copy f.at f.two.uses_mac) is_d;
  same_document = refl;
  same_mac = sym (ap (λ (document : DocumentFrame). document.uses_mac) f.same);
  same_copy = sym (some_same (copy_frame c) (copy_frame d) same);
  place = place;
  is_place = f.is_at;
  is_choice = is_choice;
  held_first = λ ns name. ap (held_by place ns name) f.is_one ∙ ap (held_in ns name) is_c;
  held_second = λ ns name. ap (held_by place ns name) f.is_two ∙ ap (held_in ns name) is_d;
})

by_choice : (W : Setup) (other : Store) (doc_type : List ℕ) (f : Found W other doc_type) (p : Option ℕ)
    → slice_get W.choice f.at ≡ p → ShowAlike W other doc_type
by_choice W other doc_type f None is_choice = inl (record {
  is_first = ap (after_place W.store W.choice) f.is_at ∙ ap (after_document W.choice f.at) f.is_one ∙ ap (after_choice f.at f.one) is_choice;
  is_second = ap (after_place other W.choice) f.is_at_other ∙ ap (after_document W.choice f.at) f.is_two ∙ ap (after_choice f.at f.two) is_choice;
})
by_choice W other doc_type f (Some place) is_choice =
    by_copies W other doc_type f place (slice_get f.one.copies place) (slice_get f.two.copies place) is_choice refl refl
    (same_at copy_frame f.one.copies f.two.copies place (ap (λ (document : DocumentFrame). document.copies) f.same))

by_documents : (W : Setup) (other : Store) (doc_type : List ℕ) (at : ℕ) (c d : Option Document)
    → document_place W.store doc_type ≡ Some at → document_place other doc_type ≡ Some at → slice_get W.store at ≡ c → slice_get other at ≡ d
    → option_map frame c ≡ option_map frame d → ShowAlike W other doc_type
by_documents W other doc_type at None None is_at is_at_other is_c is_d same = inl (record {
  is_first = ap (after_place W.store W.choice) is_at ∙ ap (after_document W.choice at) is_c;
  is_second = ap (after_place other W.choice) is_at_other ∙ ap (after_document W.choice at) is_d;
})
by_documents W other doc_type at (Some c) None is_at is_at_other is_c is_d same = cc
by_documents W other doc_type at None (Some d) is_at is_at_other is_c is_d same = cc
by_documents W other doc_type at (Some c) (Some d) is_at is_at_other is_c is_d same =
    by_choice W other doc_type (record { at = at; one = c; two = d; is_at = is_at; is_at_other = is_at_other; is_one = is_c; is_two = is_d; same = some_same (frame c) (frame d) same })
    (slice_get W.choice at) refl

by_places : (W : Setup) (other : Store) (doc_type : List ℕ) (p : Option ℕ) → map frame W.store ≡ map frame other
    → document_place W.store doc_type ≡ p → document_place other doc_type ≡ p → ShowAlike W other doc_type
by_places W other doc_type None frames is_at is_at_other = inl (record {
  is_first = ap (after_place W.store W.choice) is_at;
  is_second = ap (after_place other W.choice) is_at_other;
})
by_places W other doc_type (Some at) frames is_at is_at_other =
    by_documents W other doc_type at (slice_get W.store at) (slice_get other at) is_at is_at_other refl refl (same_at frame W.store other at frames)

pub show_alike : (W : Setup) (other : Store) (doc_type : List ℕ) → map frame W.store ≡ map frame other → ShowAlike W other doc_type
show_alike W other doc_type frames =
    by_places W other doc_type (document_place W.store doc_type) frames refl (sym (same_place W.store other doc_type frames))
