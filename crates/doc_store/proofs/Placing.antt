-- The item at a place of two lists, one after another.
use Rattle.std.proofs.Common.{◌≡◌, ℕ, zero, suc, List, [], ◌∷◌, ◌++◌, Option, Some, Result, Ok, Err, refl}
use Rattle.std.specs.Prelude.{slice_get}
use Rattle.doc_store.specs.ItemOrRest.{item_or_rest}

-- what stands there: the item, or what stands in the second list after the places that are left
abbrev pub or_after : {A : Type 0} → List A → Result A ℕ → Option A
or_after ys (Ok x) = Some x
or_after ys (Err n) = slice_get ys n

pub get_in_append : {A : Type 0} (xs ys : List A) (n : ℕ) → slice_get (xs ++ ys) n ≡ or_after ys (item_or_rest xs n)
get_in_append [] ys n = refl
get_in_append (x ∷ xs) ys zero = refl
get_in_append (x ∷ xs) ys (suc n) = get_in_append xs ys n
