-- The namespaces of an items request (ISO/IEC 18013-5, 8.3.2.1.2.1): each has a map of names of elements, each with
-- whether the reader means to retain that element.
use Rattle.std.specs.Prelude.{ℕ, nat_le, if◌then◌else◌, Bool, true, false, not, ◌&&◌, ◌||◌, List, [], ◌∷◌, length, filter_map, flat_map, Option, Some, None, is_some}
use Rattle.std.specs.List.{list_all}
use Rattle.mdoc_outside.specs.declared.key_name.KeyName.TheVariants as keys
use Rattle.mdoc_outside.specs.OptionSteps.{◌>>=◌}
use Rattle.cbor_view.specs.Label.{is_words, entries_or_none}
use Rattle.cbor_view.specs.Parts.{Part, pairs_in, text_in, boolean_in}
use Rattle.doc_request.specs.declared.request_fault.RequestFault.{RequestFault}
use Rattle.doc_request.specs.declared.request_fault.RequestFault.TheVariants.{Field, Doubled, Count}
use Rattle.doc_request.specs.declared.wish_draft.WishDraft.{WishDraft}

abbrev pub entries : Part → List (Part × Part)
entries map = entries_or_none (pairs_in map)

-- the element that an entry of a namespace asks for
abbrev pub element : List ℕ → Part × Part → Option WishDraft
element ns entry = do
  name ← text_in entry.0
  retain ← boolean_in entry.1
  Some (record { ns = ns; name = name; retain = retain })

abbrev pub elements_of : Option (List ℕ) → List (Part × Part) → List WishDraft
elements_of None names = []
elements_of (Some ns) names = filter_map (element ns) names

abbrev pub in_space : Part × Part → List WishDraft
in_space space = elements_of (text_in space.0) (entries space.1)

-- the elements of all namespaces, in the order of the bytes
abbrev pub elements : List (Part × Part) → List WishDraft
elements spaces = flat_map in_space spaces

-- whether a namespace has its form: a text, and a map with an entry, each a text with a truth value
abbrev pub is_element : Part × Part → Bool
is_element entry = is_some (text_in entry.0) && is_some (boolean_in entry.1)

abbrev pub is_empty : List (Part × Part) → Bool
is_empty [] = true
is_empty (entry ∷ entries) = false

abbrev pub is_space : Part × Part → Bool
is_space space = is_some (text_in space.0) && (not (is_empty (entries space.1)) && list_all is_element (entries space.1))

-- whether one of the keys is the text, and whether no text is a key twice
abbrev pub has_name : List ℕ → List (Part × Part) → Bool
has_name name [] = false
has_name name (entry ∷ entries) = is_words name (text_in entry.0) || has_name name entries

abbrev pub is_among : Option (List ℕ) → List (Part × Part) → Bool
is_among None entries = false
is_among (Some name) entries = has_name name entries

abbrev pub are_distinct : List (Part × Part) → Bool
are_distinct [] = true
are_distinct (entry ∷ entries) = not (is_among (text_in entry.0) entries) && are_distinct entries

abbrev pub has_distinct_names : Part × Part → Bool
has_distinct_names space = are_distinct (entries space.1)

-- a number of things from 1 to the most that are allowed
abbrev pub is_count : {A : Type 0} → ℕ → List A → Bool
is_count most things = nat_le 1 (length things) && nat_le (length things) most

-- What is wrong with the namespaces: their form; that they ask for no element or for more than 512; or that a
-- namespace is there twice, or a name within one. Names of more than 512 elements aren't compared.
abbrev pub spaces_fault : List (Part × Part) → Option RequestFault
spaces_fault spaces =
    if not (list_all is_space spaces) then Some (Field keys.NameSpaces) else
    if not (is_count 512 (elements spaces)) then Some Count else
    if are_distinct spaces && list_all has_distinct_names spaces then None else Some Doubled
