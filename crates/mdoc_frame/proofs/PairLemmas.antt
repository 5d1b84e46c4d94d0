-- A value that has to be there is there, and a value is of its pair's kind.
use Rattle.std.proofs.Common.{◌≡◌, ℕ, zero, suc, List, [], ◌∷◌, Bool, true, not, Option, Some, None, refl, sym, ap, subst}
use Rattle.std.specs.Prelude.{slice_get}
use Rattle.std.proofs.lemmas.Bool.{and_parts}
use Rattle.mdoc_frame.specs.Pairs.{Pair, all_fit, are_pairs, fits, first_value, is_in_form, is_of_kind, value_of, values_of}

-- a pair that has to be there has a value
some-value : (pair : Pair) (values : List (List ℕ)) → pair.needed ≡ true → fits pair values ≡ true → first_value values ≡ None → ⊥
some-value pair [] needed fit none = let e : not pair.needed ≡ true = fit in cc
some-value pair (value ∷ values) needed fit none = cc

given-in : (pairs : List Pair) (words : List (List ℕ)) (place : ℕ) (pair : Pair) → all_fit pairs words ≡ true → slice_get pairs place ≡ Some pair →
    pair.needed ≡ true → value_of pair.name words ≡ None → ⊥
given-in [] words place pair fit there needed none = cc
given-in (first ∷ pairs) words zero pair fit there needed none =
    let same : first ≡ pair = cc in
    let parts = and_parts (fits first (values_of first.name words)) (all_fit pairs words) fit in
    some-value pair (values_of pair.name words) needed (rw same at parts.0) none
given-in (first ∷ pairs) words (suc place) pair fit there needed none =
    given-in pairs words place pair (and_parts (fits first (values_of first.name words)) (all_fit pairs words) fit).1 there needed none

pub given : (pairs : List Pair) (words : List (List ℕ)) (place : ℕ) (pair : Pair) → is_in_form pairs words ≡ true → slice_get pairs place ≡ Some pair →
    pair.needed ≡ true → value_of pair.name words ≡ None → ⊥
given pairs words place pair form there needed none = given-in pairs words place pair (and_parts (are_pairs pairs words) (all_fit pairs words) form).1 there needed none

-- a value that is there is of its pair's kind
kind-of-value : (pair : Pair) (values : List (List ℕ)) (word : List ℕ) → fits pair values ≡ true → first_value values ≡ Some word → is_of_kind pair.kind word ≡ true
kind-of-value pair [] word fit some = absurd cc
kind-of-value pair (value ∷ []) word fit some =
    let same : value ≡ word = cc in subst (λ (w : List ℕ). is_of_kind pair.kind w ≡ true) same fit
kind-of-value pair (value ∷ (other ∷ values)) word fit some = absurd cc

kind-in : (pairs : List Pair) (words : List (List ℕ)) (place : ℕ) (pair : Pair) (word : List ℕ) → all_fit pairs words ≡ true → slice_get pairs place ≡ Some pair →
    value_of pair.name words ≡ Some word → is_of_kind pair.kind word ≡ true
kind-in [] words place pair word fit there some = absurd cc
kind-in (first ∷ pairs) words zero pair word fit there some =
    let same : first ≡ pair = cc in
    let parts = and_parts (fits first (values_of first.name words)) (all_fit pairs words) fit in
    kind-of-value pair (values_of pair.name words) word (rw same at parts.0) some
kind-in (first ∷ pairs) words (suc place) pair word fit there some =
    kind-in pairs words place pair word (and_parts (fits first (values_of first.name words)) (all_fit pairs words) fit).1 there some

-- a value of words in the form of a row is of its pair's kind
pub kind_of : (pairs : List Pair) (words : List (List ℕ)) (place : ℕ) (pair : Pair) (word : List ℕ) → is_in_form pairs words ≡ true → slice_get pairs place ≡ Some pair →
    value_of pair.name words ≡ Some word → is_of_kind pair.kind word ≡ true
kind_of pairs words place pair word form there some = kind-in pairs words place pair word (and_parts (are_pairs pairs words) (all_fit pairs words) form).1 there some
