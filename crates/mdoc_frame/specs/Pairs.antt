-- The words of a command: pairs of a name and a value, in any order. A row says which pairs a command has.
use Rattle.std.specs.Prelude.{ℕ, ◌==◌, List, [], ◌∷◌, Bool, true, false, not, ◌&&◌, Option, Some, None, codes, if◌then◌else◌}
use Rattle.std.specs.List.{list_all, list_any}
use Rattle.std.specs.Str.{bytes_eq}
use Rattle.mdoc_frame.specs.Number.{is_number}
use Rattle.mdoc_frame.specs.declared.pair_kind.PairKind.{PairKind}
use Rattle.mdoc_frame.specs.declared.pair_kind.PairKind.TheVariants.{File, FileOrNone, Number, Text}
use Rattle.mdoc_frame.specs.declared.role.Role.{Role}

-- ---- rows

-- A pair of a row: the name, what the value is, and whether it has to be there.
pub record Pair : Type 0 where
  pub name : List ℕ
  pub kind : PairKind
  pub needed : Bool

abbrev pub needed_file : List ℕ → Role → Pair
needed_file name role = record { name = name; kind = File role; needed = true }

-- one that counts as an empty one where it is absent
abbrev pub file_or_none : List ℕ → Role → Pair
file_or_none name role = record { name = name; kind = FileOrNone role; needed = true }

-- a number that needn't be there
abbrev pub number : List ℕ → ℕ → ℕ → Pair
number name least most = record { name = name; kind = Number least most; needed = false }

abbrev pub needed_text : List ℕ → Pair
needed_text name = record { name = name; kind = Text; needed = true }

-- ---- the form

-- whether a word may be a value: it doesn't begin with `-` (2d)
abbrev pub is_value : List ℕ → Bool
is_value [] = true
is_value (first ∷ rest) = not (first == 45)

abbrev pub is_of_kind : PairKind → List ℕ → Bool
is_of_kind (File role) word = is_value word
is_of_kind (FileOrNone role) word = is_value word
is_of_kind (Number least most) word = is_number least most word
is_of_kind Text word = is_value word

-- the values that stand with a name, in words taken two by two
abbrev pub values_of : List ℕ → List (List ℕ) → List (List ℕ)
values_of name [] = []
values_of name (key ∷ []) = []
values_of name (key ∷ (value ∷ rest)) = if bytes_eq key name then value ∷ values_of name rest else values_of name rest

-- whether these are the values of a pair: one of its kind, or none where it needn't be there
abbrev pub fits : Pair → List (List ℕ) → Bool
fits pair [] = not pair.needed
fits pair (value ∷ []) = is_of_kind pair.kind value
fits pair (value ∷ (other ∷ values)) = false

abbrev pub all_fit : List Pair → List (List ℕ) → Bool
all_fit pairs words = list_all (λ (pair : Pair). fits pair (values_of pair.name words)) pairs

-- whether a word is the name of one of the pairs
abbrev pub has_name : List Pair → List ℕ → Bool
has_name pairs name = list_any (λ (pair : Pair). bytes_eq pair.name name) pairs

-- whether words are names of pairs, each with a value
abbrev pub are_pairs : List Pair → List (List ℕ) → Bool
are_pairs pairs [] = true
are_pairs pairs (name ∷ []) = false
are_pairs pairs (name ∷ (value ∷ rest)) = has_name pairs name && are_pairs pairs rest

-- whether words are in the form of a row
abbrev pub is_in_form : List Pair → List (List ℕ) → Bool
is_in_form pairs words = are_pairs pairs words && all_fit pairs words

-- ---- values

-- the value that stands with a name
abbrev pub first_value : List (List ℕ) → Option (List ℕ)
first_value [] = None
first_value (value ∷ values) = Some value

abbrev pub value_of : List ℕ → List (List ℕ) → Option (List ℕ)
value_of name words = first_value (values_of name words)
