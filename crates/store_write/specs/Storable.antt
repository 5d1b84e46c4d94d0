-- What can be written as a store so that it is read again: what is within the limits of the form, nested no deeper than
-- it leaves room for.
use Rattle.std.specs.Prelude.{◌≡◌, ◌≤◌, ◌<◌, ◌^◌, ℕ, true, List, length, map, Some, IsUtf8, Option, option_map}
use Rattle.std.specs.List.{AllByRecursion}
use Rattle.mdoc_outside.specs.OptionSteps.{each as each_of}
use Rattle.cbor_view.specs.Parts.{items_in}
use Rattle.cbor_view.specs.Spelling.{AreBytes}
use Rattle.cbor_maps.specs.WrittenReads.{SpellsItem}
use Rattle.doc_response.specs.Answered.{grouped}
use Rattle.doc_response.specs.WrittenReads.{regrouped}
use Rattle.doc_store.specs.Fields.{are_distinct}
use Rattle.doc_store.specs.Store.{Copy, Document, Store, named_item, store}
use Rattle.store_write.specs.Written.{store_bytes}

-- a name: a text of at most 128 bytes
pub record IsName (name : List ℕ) : Type 0 where
  pub short : length name ≤ 128
  pub utf8 : IsUtf8 name

-- an item with its name, within the limits on both
abbrev pub named : List ℕ → Option (List ℕ × List ℕ)
named raw = named_item (record { at = 0; bytes = raw })

-- a namespace: its items have few levels, and no two of them have one name
pub record IsNamespace (space : List ℕ × List (List ℕ)) : Type 0 where
  pub name : IsName space.0
  pub nested : AllByRecursion (SpellsItem 25) space.1
  pub items : List (List ℕ × List ℕ)
  pub items_are : each_of named space.1 ≡ Some items
  pub distinct : are_distinct (map (λ (item : List ℕ × List ℕ). item.0) items) ≡ true

-- a copy, whose issuer's signature is an array of four
pub record IsCopy (copy : Copy) : Type 0 where
  pub key : copy.key < 2 ^ 32
  pub issuer_auth : SpellsItem 27 copy.issuer_auth
  pub four : (at : ℕ) → option_map length (items_in (record { at = at; bytes = copy.issuer_auth })) ≡ Some 4
  pub namespaces : AllByRecursion IsNamespace (grouped copy.items)
  pub few_namespaces : length (grouped copy.items) ≤ 16
  pub few_items : length (regrouped copy.items) ≤ 512

pub record IsDocument (document : Document) : Type 0 where
  pub doc_type : IsName document.doc_type
  pub some : 1 ≤ length document.copies
  pub few : length document.copies ≤ 64
  pub copies : AllByRecursion IsCopy document.copies

pub record IsStore (documents : Store) : Type 0 where
  pub few : length documents ≤ 16
  pub distinct : are_distinct (map (λ (d : Document). d.doc_type) documents) ≡ true
  pub each : AllByRecursion IsDocument documents

-- the items of each copy by their namespaces, in the order in which these appear first
abbrev pub copy_by_namespace : Copy → Copy
copy_by_namespace copy = record { key = copy.key; used = copy.used; issuer_auth = copy.issuer_auth; items = regrouped copy.items }

abbrev pub document_by_namespace : Document → Document
document_by_namespace document = record { doc_type = document.doc_type; uses_mac = document.uses_mac; copies = map copy_by_namespace document.copies }

abbrev pub by_namespace : Store → Store
by_namespace documents = map document_by_namespace documents

-- The law that a written store is read: these documents, their copies, and the items of these by their namespaces.
abbrev pub AreWrittenRead : Type 0
AreWrittenRead = (documents : Store) → IsStore documents → store (store_bytes documents) ≡ Some (by_namespace documents)

-- The law that a store which was read can be written, and is read as the same.
abbrev pub AreReadAgain : Type 0
AreReadAgain = (bytes : List ℕ) (documents : Store) → AreBytes bytes → store bytes ≡ Some documents → IsStore documents × (by_namespace documents ≡ documents)
