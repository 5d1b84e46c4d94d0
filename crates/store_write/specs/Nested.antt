-- How deep the parts of a store are nested. The file is a map with an array of documents, which are maps with an array of
-- copies; a copy is a map, in which the issuer's signature is a value, and an item is in the array of its namespace
-- in another map. An item of CBOR that is read has at most 32 levels, so that 27 and 25 are left.
use Rattle.std.specs.Prelude.{◌≡◌, ◌≤◌, ℕ, List, Some, IsOk, slice_get}
use Rattle.std.specs.List.{AllByRecursion}
use Rattle.cbor_view.specs.Reading.{reads, tree_of}
use Rattle.cbor_view.specs.Spelling.{AreBytes}
use Rattle.cbor_view.specs.Tree.{levels}
use Rattle.issuer_items.specs.Item.{item}
use Rattle.doc_store.specs.Held.{held}
use Rattle.doc_store.specs.Store.{Copy, Document, Store, store}

-- one item of CBOR of at most so many levels
pub record IsNested (most : ℕ) (bytes : List ℕ) : Type 0 where
  pub read : IsOk (reads bytes)
  pub nesting : levels (tree_of bytes) ≤ most

-- a stored item: it is read as an issuer-signed item (ISO/IEC 18013-5, 8.3.2.1.2.2)
pub record IsNestedItem (raw : List ℕ) : Type 0 where
  pub nested : IsNested 25 raw
  pub item : IsOk (item raw)

pub record IsNestedCopy (copy : Copy) : Type 0 where
  pub issuer_auth : IsNested 27 copy.issuer_auth
  pub items : AllByRecursion (λ (stored : List ℕ × List ℕ). IsNestedItem stored.1) copy.items

abbrev pub IsNestedDocument : Document → Type 0
IsNestedDocument document = AllByRecursion IsNestedCopy document.copies

-- The law that the parts of a store that is read are nested so.
abbrev pub AreStoredNested : Type 0
AreStoredNested = (bytes : List ℕ) (documents : Store) → AreBytes bytes → store bytes ≡ Some documents → AllByRecursion IsNestedDocument documents

-- The law that the copy at a place of such documents is one of these.
abbrev pub IsPlacedNested : Type 0
IsPlacedNested = (documents : Store) (document : Document) (copy : Copy) (n place : ℕ) → AllByRecursion IsNestedDocument documents → slice_get documents n ≡ Some document → slice_get document.copies place ≡ Some copy → IsNestedCopy copy

-- The law that an item which such a copy holds is one of these.
abbrev pub IsHeldNested : Type 0
IsHeldNested = (copy : Copy) (ns name raw : List ℕ) → IsNestedCopy copy → held copy ns name ≡ Some raw → IsNestedItem raw
