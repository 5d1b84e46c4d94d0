-- The keys of a map by their values, and what stands under a key.
use Rattle.std.specs.Prelude.{Bool, false, if◌then◌else◌, ℕ, ℤ, List, [], ◌∷◌, bytes_eq, Option, Some, None, Result, Ok, Err}
use Rattle.std.specs.Ordering.{int_eq}
use Rattle.cbor_view.specs.declared.doubled.Doubled.{Doubled}
use Rattle.cbor_view.specs.declared.key.Key.{Key}
use Rattle.cbor_view.specs.declared.key.Key.TheVariants as keys
use Rattle.cbor_view.specs.Tree.{Tree, int_of, text_of, pairs_of}

-- a number, or the bytes of a text
pub data Label : Type 0 where
  Number : ℤ → Label
  Words : List ℕ → Label

abbrev pub label_of : Key → Label
label_of (keys.Int n) = Number n
label_of (keys.Text t) = Words t.now

abbrev pub is_number : ℤ → Option ℤ → Bool
is_number z None = false
is_number z (Some x) = int_eq x z

abbrev pub is_words : List ℕ → Option (List ℕ) → Bool
is_words words None = false
is_words words (Some text) = bytes_eq text words

-- a key is compared by its value, whatever its head
abbrev pub is_label : Label → Tree → Bool
is_label (Number z) t = is_number z (int_of t)
is_label (Words words) t = is_words words (text_of t)

-- the values of the entries whose key has that label; `tree` says what the keys are as trees
abbrev pub values_of : {A : Type 0} → (A → Tree) → Label → List (A × A) → List A
values_of tree label [] = []
values_of tree label (e ∷ es) = if is_label label (tree e.0) then e.1 ∷ values_of tree label es else values_of tree label es

-- the one of them, none, or that there are more
abbrev pub only_of : {A : Type 0} → List A → Result (Option A) Doubled
only_of [] = Ok None
only_of (x ∷ []) = Ok (Some x)
only_of (x ∷ (y ∷ zs)) = Err (record {})

abbrev pub entries_or_none : {A : Type 0} → Option (List (A × A)) → List (A × A)
entries_or_none None = []
entries_or_none (Some es) = es

-- The value under a key of a map: none where it isn't there or the tree is no map.
abbrev pub entry_of : Label → Tree → Result (Option Tree) Doubled
entry_of label t = only_of (values_of (λ k. k) label (entries_or_none (pairs_of t)))
