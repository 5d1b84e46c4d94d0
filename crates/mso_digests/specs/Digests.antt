-- The digests of a security object (valueDigests; ISO/IEC 18013-5, 9.1.2.4): a map of namespaces, each with a map of
-- digest identifiers and digests.
use Rattle.std.specs.Prelude.{ℕ, Bool, true, false, not, ◌==◌, ◌&&◌, ◌||◌, if◌then◌else◌, List, [], ◌∷◌, length, flat_map, Option, Some, None, is_some}
use Rattle.std.specs.List.{list_all}
use Rattle.std.specs.Str.{bytes_eq}
use Rattle.cbor_view.specs.Label.{is_words, entries_or_none}
use Rattle.cbor_view.specs.Parts.{Part, pairs_in, uint_in, bytes_in, text_in}

-- A digest, with the namespace and the digest identifier of its item.
pub record Digest : Type 0 where
  pub namespace : List ℕ
  pub number : ℕ
  pub digest : List ℕ

-- ---- what a map lists

abbrev pub digest_of : List ℕ → Option ℕ → Option (List ℕ) → List Digest
digest_of namespace (Some number) (Some digest) = record { namespace = namespace; number = number; digest = digest } ∷ []
digest_of namespace number digest = []

abbrev pub digests_under : List ℕ → List (Part × Part) → List Digest
digests_under namespace entries = flat_map (λ entry. digest_of namespace (uint_in entry.0) (bytes_in entry.1)) entries

abbrev pub digests_of : Option (List ℕ) → Part → List Digest
digests_of None value = []
digests_of (Some namespace) value = digests_under namespace (entries_or_none (pairs_in value))

abbrev pub digests_from : List (Part × Part) → List Digest
digests_from entries = flat_map (λ entry. digests_of (text_in entry.0) entry.1) entries

abbrev pub digests_in : Part → List Digest
digests_in map = digests_from (entries_or_none (pairs_in map))

-- ---- whether it is such a map

abbrev pub is_digest : Part × Part → Bool
is_digest entry = is_some (uint_in entry.0) && is_some (bytes_in entry.1)

abbrev pub are_digests : Option (List (Part × Part)) → Bool
are_digests None = false
are_digests (Some entries) = list_all is_digest entries

abbrev pub is_namespace : Part × Part → Bool
is_namespace entry = is_some (text_in entry.0) && are_digests (pairs_in entry.1)

abbrev pub are_namespaces : Option (List (Part × Part)) → Bool
are_namespaces None = false
are_namespaces (Some entries) = list_all is_namespace entries

abbrev pub is_digest_map : Part → Bool
is_digest_map map = are_namespaces (pairs_in map)

-- whether each digest has the 32 bytes of SHA-256
abbrev pub have_length : List Digest → Bool
have_length digests = list_all (λ d. length d.digest == 32) digests

-- ---- keys that are there twice (RFC 8949, section 5.6)

-- whether one of the keys is that text, and that number
abbrev pub has_text : Option (List ℕ) → List (Part × Part) → Bool
has_text None entries = false
has_text (Some text) [] = false
has_text (Some text) (entry ∷ entries) = is_words text (text_in entry.0) || has_text (Some text) entries

abbrev pub is_uint : ℕ → Option ℕ → Bool
is_uint number None = false
is_uint number (Some own) = own == number

abbrev pub has_uint : Option ℕ → List (Part × Part) → Bool
has_uint None entries = false
has_uint (Some number) [] = false
has_uint (Some number) (entry ∷ entries) = is_uint number (uint_in entry.0) || has_uint (Some number) entries

abbrev pub are_texts_distinct : List (Part × Part) → Bool
are_texts_distinct [] = true
are_texts_distinct (entry ∷ entries) = not (has_text (text_in entry.0) entries) && are_texts_distinct entries

abbrev pub are_uints_distinct : List (Part × Part) → Bool
are_uints_distinct [] = true
are_uints_distinct (entry ∷ entries) = not (has_uint (uint_in entry.0) entries) && are_uints_distinct entries

-- no namespace is there twice, and no digest identifier in one of them
abbrev pub has_distinct_uints : Part → Bool
has_distinct_uints value = are_uints_distinct (entries_or_none (pairs_in value))

abbrev pub have_distinct_uints : List (Part × Part) → Bool
have_distinct_uints entries = list_all (λ entry. has_distinct_uints entry.1) entries

abbrev pub has_distinct_digests : Part → Bool
has_distinct_digests map =
    are_texts_distinct (entries_or_none (pairs_in map)) && have_distinct_uints (entries_or_none (pairs_in map))

-- ---- the digest of an item

-- the first digest with that namespace and identifier
abbrev pub digest_at : List ℕ → ℕ → List Digest → Option (List ℕ)
digest_at namespace number [] = None
digest_at namespace number (d ∷ ds) =
    if bytes_eq d.namespace namespace && d.number == number then Some d.digest else digest_at namespace number ds
