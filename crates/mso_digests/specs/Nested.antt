-- The digests of a map, namespace by namespace: the words of the walks over it.
use Rattle.std.specs.Prelude.{ℕ, Bool, true, false, ◌&&◌, nat_lt, ◌==◌, if◌then◌else◌, List, [], ◌∷◌, length, Option, Some, None}
use Rattle.std.specs.Option.{option_or}
use Rattle.std.specs.List.{list_all}
use Rattle.std.specs.Str.{bytes_eq}
use Rattle.cbor_view.specs.Label.{entries_or_none}
use Rattle.cbor_view.specs.Parts.{Part, pairs_in, uint_in, bytes_in, text_in}

-- ---- the digest under a number, and that of a namespace

abbrev pub chosen : ℕ → Option ℕ → Option (List ℕ) → Option (List ℕ) → Option (List ℕ)
chosen number (Some own) (Some digest) later = if own == number then Some digest else later
chosen number own digest later = later

abbrev pub under_number : ℕ → List (Part × Part) → Option (List ℕ)
under_number number [] = None
under_number number (entry ∷ entries) = chosen number (uint_in entry.0) (bytes_in entry.1) (under_number number entries)

abbrev pub of_namespace : List ℕ → ℕ → Option (List ℕ) → Part → Option (List ℕ)
of_namespace namespace number None value = None
of_namespace namespace number (Some own) value = if bytes_eq own namespace then under_number number (entries_or_none (pairs_in value)) else None

abbrev pub under_namespace : List ℕ → ℕ → List (Part × Part) → Option (List ℕ)
under_namespace namespace number [] = None
under_namespace namespace number (entry ∷ entries) = option_or (of_namespace namespace number (text_in entry.0) entry.1) (under_namespace namespace number entries)

-- ---- the lengths

abbrev pub is_length : Option ℕ → Option (List ℕ) → Bool
is_length (Some number) (Some digest) = length digest == 32
is_length number digest = true

abbrev pub has_length : Part × Part → Bool
has_length entry = is_length (uint_in entry.0) (bytes_in entry.1)

abbrev pub of_lengths : Option (List ℕ) → Part → Bool
of_lengths None value = true
of_lengths (Some namespace) value = list_all has_length (entries_or_none (pairs_in value))

abbrev pub has_lengths : Part × Part → Bool
has_lengths entry = of_lengths (text_in entry.0) entry.1

-- ---- digest identifiers that ascend

abbrev pub is_after : Option ℕ → Option ℕ → Bool
is_after None last = false
is_after (Some number) None = true
is_after (Some number) (Some last) = nat_lt last number

-- each is a number, and more than the one before
abbrev pub are_ascending : Option ℕ → List (Part × Part) → Bool
are_ascending last [] = true
are_ascending last (entry ∷ entries) = is_after (uint_in entry.0) last && are_ascending (uint_in entry.0) entries
