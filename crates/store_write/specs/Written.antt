-- The store file as it is written, which is also the form of a package: every head as short as it can be (RFC 8949,
-- section 4.2.1), the keys in the order of their tables, items and issuer's signatures as they are stored.
use Rattle.std.specs.Prelude.{ℕ, List, [], ◌∷◌, ◌++◌, map, Bool, true, false, Some}
use Rattle.mdoc_outside.specs.declared.key_name.KeyName.TheVariants as keys
use Rattle.cbor_view.specs.Shortest.{array_bytes, boolean_bytes, shortest_head, text_bytes, uint_bytes}
use Rattle.cbor_maps.specs.Writing.{Fields, key_bytes, map_head, named_map, onto}
use Rattle.doc_response.specs.Answered.{items_map}
use Rattle.doc_store.specs.Store.{Copy, Document, Store}

-- a copy: the number of its device key, whether it was used, the issuer's signature, and the namespaces in the order in
-- which they appear first, each with its items
abbrev pub copy_fields : Copy → Fields
copy_fields copy =
    (keys.Key, Some (uint_bytes copy.key))
    ∷ (keys.Used, Some (boolean_bytes copy.used))
    ∷ (keys.IssuerAuth, Some copy.issuer_auth)
    ∷ (keys.NameSpaces, Some (items_map copy.items))
    ∷ []

unfoldable pub copy_bytes : Copy → List ℕ
copy_bytes copy = named_map (copy_fields copy)

-- 0 for a signature of the device, 1 for a MAC
abbrev pub auth_number : Bool → ℕ
auth_number false = 0
auth_number true = 1

-- a document of copies that are given as their bytes
abbrev pub document_fields : List ℕ → Bool → List (List ℕ) → Fields
document_fields doc_type uses_mac copies =
    (keys.DocType, Some (text_bytes doc_type))
    ∷ (keys.Auth, Some (uint_bytes (auth_number uses_mac)))
    ∷ (keys.Copies, Some (array_bytes copies))
    ∷ []

unfoldable pub document_map : List ℕ → Bool → List (List ℕ) → List ℕ
document_map doc_type uses_mac copies = named_map (document_fields doc_type uses_mac copies)

abbrev pub document_bytes : Document → List ℕ
document_bytes document = document_map document.doc_type document.uses_mac (map copy_bytes document.copies)

-- a store of documents that are given as their bytes: version 1
abbrev pub store_fields : List (List ℕ) → Fields
store_fields documents = (keys.Version, Some (uint_bytes 1)) ∷ (keys.Documents, Some (array_bytes documents)) ∷ []

unfoldable pub store_map : List (List ℕ) → List ℕ
store_map documents = named_map (store_fields documents)

abbrev pub store_bytes : Store → List ℕ
store_bytes documents = store_map (map document_bytes documents)

-- ---- what stands first

-- in a copy, before the map of its items
unfoldable pub copy_head : ℕ → Bool → List ℕ → List ℕ
copy_head key used issuer_auth =
    onto (map_head 4) ((keys.Key, Some (uint_bytes key)) ∷ (keys.Used, Some (boolean_bytes used)) ∷ (keys.IssuerAuth, Some issuer_auth) ∷ [])
    ++ key_bytes keys.NameSpaces

-- in a document, before the array of its copies
unfoldable pub document_head : List ℕ → Bool → List ℕ
document_head doc_type uses_mac =
    onto (map_head 3) ((keys.DocType, Some (text_bytes doc_type)) ∷ (keys.Auth, Some (uint_bytes (auth_number uses_mac))) ∷ []) ++ key_bytes keys.Copies

-- in a store, before the array of its documents
unfoldable pub store_head : List ℕ
store_head = onto (map_head 2) ((keys.Version, Some (uint_bytes 1)) ∷ []) ++ key_bytes keys.Documents

-- in a store of one document, before the array of its copies
abbrev pub package_head : List ℕ → Bool → List ℕ
package_head doc_type uses_mac = store_head ++ shortest_head 4 1 ++ document_head doc_type uses_mac
