-- The headers of a message (RFC 9052, section 3): maps of labels, which are numbers and texts (section 1.5).
use Rattle.std.specs.Prelude.{ℕ, Bool, true, false, not, ◌&&◌, ◌||◌, ℤ, pos, List, [], ◌∷◌, is_some, Option, Some, None, Result, Ok, Err}
use Rattle.std.specs.List.{list_all}
use Rattle.mdoc_outside.specs.ResultSteps.{or_fault}
use Rattle.cbor_view.specs.declared.cbor_fault.CborFault.{CborFault}
use Rattle.cbor_view.specs.declared.doubled.Doubled.{Doubled}
use Rattle.cbor_view.specs.Label.{Label, Number, Words, is_label, is_number, entries_or_none}
use Rattle.cbor_view.specs.Parts.{Part, tree_in, cbor, pairs_in, items_in, bytes_in}
use Rattle.cbor_view.specs.Tree.{int_of, text_of}
use Rattle.cbor_maps.specs.Labels.{labelled}
use Rattle.cbor_maps.specs.Reading.{map_in}
use Rattle.cose_msgs.specs.declared.cose_fault.CoseFault.{CoseFault}
use Rattle.cose_msgs.specs.declared.cose_fault.CoseFault.TheVariants.{Header}

-- the label that a key is, where it is one
abbrev pub number_or_words : Option ℤ → Option (List ℕ) → Option Label
number_or_words (Some n) words = Some (Number n)
number_or_words None (Some text) = Some (Words text)
number_or_words None None = None

abbrev pub label_in : Part → Option Label
label_in key = number_or_words (int_of (tree_in key)) (text_of (tree_in key))

-- whether one of the keys has the label
abbrev pub has_label : Option Label → List (Part × Part) → Bool
has_label None entries = false
has_label (Some label) [] = false
has_label (Some label) (entry ∷ entries) = is_label label (tree_in entry.0) || has_label (Some label) entries

-- whether no label is there twice
abbrev pub are_distinct : List (Part × Part) → Bool
are_distinct [] = true
are_distinct (entry ∷ entries) = not (has_label (label_in entry.0) entries) && are_distinct entries

abbrev pub has_distinct_labels : Part → Bool
has_distinct_labels map = are_distinct (entries_or_none (pairs_in map))

-- the map that the protected bytes are (section 3)
abbrev pub one_map : Result Part CborFault → Result Part CoseFault
one_map (Err fault) = Err Header
one_map (Ok item) = or_fault Header (map_in item)

abbrev pub protected_map : List ℕ → Result Part CoseFault
protected_map bytes = one_map (cbor bytes)

-- whether label 1 is that algorithm (section 3.1)
abbrev pub is_integer : ℤ → Result (Option Part) Doubled → Bool
is_integer number (Ok (Some value)) = is_number number (int_of (tree_in value))
is_integer number (Ok None) = false
is_integer number (Err twice) = false

abbrev pub has_algorithm : ℤ → Part → Bool
has_algorithm number map = is_integer number (labelled map (pos 1))

-- The chain of certificates under label 33 (RFC 9360, section 2): one string of bytes, or an array of strings
-- of bytes, of which the first is taken.
abbrev pub is_bytes : Part → Bool
is_bytes item = is_some (bytes_in item)

abbrev pub if_all : Bool → Option (List ℕ) → Option (List ℕ)
if_all true found = found
if_all false found = None

abbrev pub first_of : Option (List Part) → Option (List ℕ)
first_of None = None
first_of (Some []) = None
first_of (Some (item ∷ items)) = if_all (list_all is_bytes items) (bytes_in item)

abbrev pub bytes_or : Option (List ℕ) → Option (List ℕ) → Option (List ℕ)
bytes_or (Some bytes) other = Some bytes
bytes_or None other = other

abbrev pub first_certificate : Part → Option (List ℕ)
first_certificate value = bytes_or (bytes_in value) (first_of (items_in value))

abbrev pub certificate_in : Result (Option Part) Doubled → Option (List ℕ)
certificate_in (Ok (Some value)) = first_certificate value
certificate_in (Ok None) = None
certificate_in (Err twice) = None

abbrev pub chain_in : Part → Option (List ℕ)
chain_in map = certificate_in (labelled map (pos 33))
