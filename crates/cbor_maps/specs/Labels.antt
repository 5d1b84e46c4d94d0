-- Maps whose keys are numbers, as those of COSE (RFC 9052, section 1.4): what is under a number, and the map
-- as it is written.
use Rattle.std.specs.Prelude.{ℕ, ◌<◌, ◌^◌, if◌then◌else◌, ℤ, pos, negsuc, List, [], ◌∷◌, ◌++◌, length, Option, Some, None, Result}
use Rattle.std.specs.Ordering.{int_eq}
use Rattle.cbor_view.specs.declared.doubled.Doubled.{Doubled}
use Rattle.cbor_view.specs.Label.{Number}
use Rattle.cbor_view.specs.Parts.{Part, entry_in}
use Rattle.cbor_view.specs.Shortest.{int_bytes}
use Rattle.cbor_maps.specs.Writing.{map_head}

-- what is under a number: nothing, or the one value, or that the number is there twice
unfoldable pub labelled : Part → ℤ → Result (Option Part) Doubled
labelled map number = entry_in (Number number) map

-- each number with the bytes of its value, or with none
abbrev pub LabelledFields : Type 0
LabelledFields = List (ℤ × Option (List ℕ))

abbrev pub labelled_values : LabelledFields → List (ℤ × List ℕ)
labelled_values [] = []
labelled_values ((number, None) ∷ fields) = labelled_values fields
labelled_values ((number, Some value) ∷ fields) = (number, value) ∷ labelled_values fields

unfoldable pub label_bytes : ℤ → List ℕ
label_bytes number = int_bytes number

abbrev pub put_labelled : List ℕ → ℤ → Option (List ℕ) → List ℕ
put_labelled bytes number None = bytes
put_labelled bytes number (Some value) = bytes ++ label_bytes number ++ value

abbrev pub onto_labelled : List ℕ → LabelledFields → List ℕ
onto_labelled bytes [] = bytes
onto_labelled bytes (field ∷ fields) = onto_labelled (put_labelled bytes field.0 field.1) fields

-- the map: its head, and then the fields in order
abbrev pub labelled_map : LabelledFields → List ℕ
labelled_map fields = onto_labelled (map_head (length (labelled_values fields))) fields

-- the numbers as their bytes
abbrev pub spelled_labels : List (ℤ × List ℕ) → List (List ℕ × List ℕ)
spelled_labels [] = []
spelled_labels (field ∷ fields) = (label_bytes field.0, field.1) ∷ spelled_labels fields

-- the values of a number
abbrev pub values_labelled : ℤ → List (ℤ × List ℕ) → List (List ℕ)
values_labelled number [] = []
values_labelled number (field ∷ fields) = if int_eq field.0 number then field.1 ∷ values_labelled number fields else values_labelled number fields

-- a number that has a spelling
abbrev pub IsLabel : ℤ → Type 0
IsLabel (pos n) = n < 2 ^ 64
IsLabel (negsuc n) = n < 2 ^ 64
