-- The item at a place of a list, or how many places lie beyond it.
use Rattle.std.specs.Prelude.{ℕ, zero, suc, List, [], ◌∷◌, Result, Ok, Err}

abbrev pub item_or_rest : {A : Type 0} → List A → ℕ → Result A ℕ
item_or_rest [] n = Err n
item_or_rest (x ∷ xs) zero = Ok x
item_or_rest (x ∷ xs) (suc n) = item_or_rest xs n

-- a value that is there, seen by a view
abbrev pub ok_map : {A B E : Type 0} → (A → B) → Result A E → Result B E
ok_map view (Ok x) = Ok (view x)
ok_map view (Err e) = Err e
