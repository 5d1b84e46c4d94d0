-- The store file: the documents of a holder, each with the copies that an issuer made of it.
use Rattle.std.specs.Prelude.{ℕ, ◌==◌, ◌^◌, nat_le, nat_lt, List, length, map, Bool, true, false, ◌&&◌, Option, Some, None, if◌then◌else◌}
use Rattle.std.specs.List.{flat_map}
use Rattle.cbor_view.specs.Parts.{Part, cbor, uint_in, text_in, boolean_in, items_in, pairs_in}
use Rattle.cbor_maps.specs.Reading.{any_in}
use Rattle.mdoc_outside.specs.declared.key_name.KeyName.TheVariants as keys
use Rattle.mdoc_outside.specs.OptionSteps.{◌>>=◌, where_true, each}
use Rattle.doc_store.specs.Fields.{field_of, are_distinct}
use Rattle.doc_store.specs.Item.{item, if_spelled}

-- A copy: the number of its device key, whether it was used, the issuer's signature as stored, and its items as stored, each with its namespace.
pub record Copy : Type 0 where
  pub key : ℕ
  pub used : Bool
  pub issuer_auth : List ℕ
  pub items : List (List ℕ × List ℕ)

-- A document: its type, whether its device authentication is a MAC, and its copies, of which there is at least one.
pub record Document : Type 0 where
  pub doc_type : List ℕ
  pub uses_mac : Bool
  pub copies : List Copy

abbrev pub Store : Type 0
Store = List Document

-- a name: a text of at most 128 bytes
abbrev pub name_in : Part → Option (List ℕ)
name_in part = text_in part >>= λ name. where_true (nat_le (length name) 128) name

-- a list of so many at least and at most
abbrev pub within : {A : Type 0} → ℕ → ℕ → List A → Option (List A)
within least most xs = where_true (nat_le least (length xs) && nat_le (length xs) most) xs

-- An item of a namespace, with its name: the name has at most 128 bytes, and the value at most 262,144.
abbrev pub named_item : Part → Option (List ℕ × List ℕ)
named_item part = do
  read ← item part.bytes
  where_true (nat_le (length read.name) 128 && nat_le (length read.value) 262144) (read.name, part.bytes)

-- the items of a namespace as stored; no two have one name
abbrev pub namespace : Part × Part → Option (List ℕ × List (List ℕ))
namespace entry = do
  name ← name_in entry.0
  items ← items_in entry.1 >>= each named_item
  where_true (are_distinct (map (λ (named : List ℕ × List ℕ). named.0) items)) (name, map (λ (named : List ℕ × List ℕ). named.1) items)

-- each item of a namespace beside the namespace's name
abbrev pub spread : List ℕ × List (List ℕ) → List (List ℕ × List ℕ)
spread space = map (λ raw. (space.0, raw)) space.1

-- The items of a copy: of at most 16 namespaces, no two of one name, and at most 512 in all.
abbrev pub items_of : List (Part × Part) → Option (List (List ℕ × List ℕ))
items_of entries = do
  spaces ← within 0 16 entries >>= each namespace
  distinct ← where_true (are_distinct (map (λ (space : List ℕ × List (List ℕ)). space.0) spaces)) spaces
  within 0 512 (flat_map spread distinct)

abbrev pub copy : Part → Option Copy
copy part = do
  key ← field_of keys.Key uint_in part
  small ← where_true (nat_lt key (2 ^ 32)) key
  used ← field_of keys.Used boolean_in part
  issuer_auth ← field_of keys.IssuerAuth any_in part
  parts ← items_in issuer_auth >>= within 4 4
  spaces ← field_of keys.NameSpaces pairs_in part
  items ← items_of spaces
  Some (record { key = small; used = used; issuer_auth = issuer_auth.bytes; items = items })

-- 0 for a signature of the device, 1 for a MAC
abbrev pub is_mac : ℕ → Option Bool
is_mac auth = if auth == 0 then Some false else if auth == 1 then Some true else None

abbrev pub document : Part → Option Document
document part = do
  doc_type ← field_of keys.DocType name_in part
  uses_mac ← field_of keys.Auth uint_in part >>= is_mac
  copies ← field_of keys.Copies items_in part >>= within 1 64 >>= each copy
  Some (record { doc_type = doc_type; uses_mac = uses_mac; copies = copies })

-- The store that a file spells: version 1, and at most 16 documents, no two of one type.
unfoldable pub store : List ℕ → Option Store
store bytes = do
  file ← if_spelled (cbor bytes)
  version ← field_of keys.Version uint_in file >>= λ n. where_true (n == 1) n
  documents ← field_of keys.Documents items_in file >>= within 0 16 >>= each document
  where_true (are_distinct (map (λ (d : Document). d.doc_type) documents)) documents
