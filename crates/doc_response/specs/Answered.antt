-- What is answered of the documents that are asked for (ISO/IEC 18013-5, 8.3.2.1.2.2 and 8.3.2.1.2.3): the
-- released items, and an error for each element that isn't released.
use Rattle.std.specs.Prelude.{ℕ, ◌==◌, List, [], ◌∷◌, length, map, filter, Bool, not, Option, Some, None}
use Rattle.std.specs.List.{list_any}
use Rattle.std.specs.Str.{bytes_eq}
use Rattle.cbor_view.specs.Shortest.{uint_bytes, text_bytes, array_bytes, map_bytes}

-- A document that is asked for: its type, the released items, each with its namespace, and the elements that
-- aren't released, each by namespace and name. A denied element and one that isn't held are alike.
pub record Answered : Type 0 where
  pub doc_type : List ℕ
  pub items : List (List ℕ × List ℕ)
  pub missing : List (List ℕ × List ℕ)

-- whether a text is one of a list
abbrev pub has_text : List ℕ → List (List ℕ) → Bool
has_text text texts = list_any (λ (other : List ℕ). bytes_eq other text) texts

-- each text at its first place
abbrev pub distinct_texts : List (List ℕ) → List (List ℕ)
distinct_texts [] = []
distinct_texts (text ∷ texts) = text ∷ filter (λ (other : List ℕ). not (bytes_eq text other)) (distinct_texts texts)

-- what is given with a namespace, in order
abbrev pub of_namespace : List (List ℕ × List ℕ) → List ℕ → List ℕ × List (List ℕ)
of_namespace pairs ns =
    (ns, map (λ (pair : List ℕ × List ℕ). pair.1) (filter (λ (pair : List ℕ × List ℕ). bytes_eq pair.0 ns) pairs))

-- pairs by their namespaces, in the order in which these appear first
abbrev pub grouped : List (List ℕ × List ℕ) → List (List ℕ × List (List ℕ))
grouped pairs = map (of_namespace pairs) (distinct_texts (map (λ (pair : List ℕ × List ℕ). pair.0) pairs))

-- the items of a namespace, as they are stored
abbrev pub namespace_entry : List ℕ × List (List ℕ) → List ℕ × List ℕ
namespace_entry group = (text_bytes group.0, array_bytes group.1)

-- error code 0: data not returned (8.3.2.1.2.3, table 9)
abbrev pub error_entry : List ℕ → List ℕ × List ℕ
error_entry name = (text_bytes name, uint_bytes 0)

-- the names of a namespace whose elements aren't returned
abbrev pub errors_entry : List ℕ × List (List ℕ) → List ℕ × List ℕ
errors_entry group = (text_bytes group.0, map_bytes (map error_entry group.1))

-- the map of namespaces to their items, and the one of namespaces to their errors
unfoldable pub items_map : List (List ℕ × List ℕ) → List ℕ
items_map items = map_bytes (map namespace_entry (grouped items))

unfoldable pub errors_map : List (List ℕ × List ℕ) → List ℕ
errors_map missing = map_bytes (map errors_entry (grouped missing))

-- the error of a document type of which nothing is returned
unfoldable pub document_error : List ℕ → List ℕ
document_error doc_type = map_bytes (error_entry doc_type ∷ [])

-- whether nothing of a document is released
abbrev pub is_empty : Answered → Bool
is_empty document = length document.items == 0

-- An array or a map is written only where there is something in it.
abbrev pub if_any : {A : Type 0} → List A → List ℕ → Option (List ℕ)
if_any [] value = None
if_any (x ∷ xs) value = Some value
