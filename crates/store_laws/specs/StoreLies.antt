-- That what is read of a store is there in the file, each part at its place: the documents, their copies, and of these the
-- issuer's signatures, the namespaces and the items.
use Rattle.std.specs.Prelude.{◌≡◌, ℕ, List, Some, Ok}
use Rattle.std.specs.List.{AllZip, flat_map}
use Rattle.mdoc_outside.specs.declared.key_name.KeyName.TheVariants as keys
use Rattle.cbor_view.specs.Parts.{LiesIn, Part, items_in, pairs_in, text_in}
use Rattle.cbor_maps.specs.Reading.{entry}
use Rattle.issuer_items.specs.Item.{Item, item}
use Rattle.message_laws.specs.ItemLies.{ItemLies}
use Rattle.message_laws.specs.StringLies.{StringLies, whole_part}
use Rattle.doc_store.specs.Store.{Copy, Document, Store, spread, store}

-- an item as it is stored, which is read as an issuer-signed item (ISO/IEC 18013-5, 8.3.2.1.2.2): its fields lie in the
-- file too
pub record StoredItemLies (all part : Part) (raw : List ℕ) : Type 0 where
  pub stands_in : LiesIn all part
  pub bytes : part.bytes ≡ raw
  pub read : Item
  pub read_is : item raw ≡ Ok read
  pub fields_stand_in_bytes : ItemLies all part read

-- a namespace: a key, which is its name, and under it the array of its items
pub record NamespaceLies (all : Part) (under : Part × Part) (space : List ℕ × List (List ℕ)) : Type 0 where
  pub parts : List Part
  pub name_lies : StringLies text_in all under.0 space.0
  pub array : items_in under.1 ≡ Some parts
  pub items_lie : AllZip (StoredItemLies all) parts space.1

-- a copy: the issuer's signature as it is stored, and the namespaces with their items
pub record CopyLies (all part : Part) (copy : Copy) : Type 0 where
  pub issuer_auth : Part
  pub map : Part
  pub entries : List (Part × Part)
  pub spaces : List (List ℕ × List (List ℕ))
  pub stands_in : LiesIn all part
  pub under_auth : entry part keys.IssuerAuth ≡ Ok (Some issuer_auth)
  pub auth_lies : LiesIn all issuer_auth
  pub auth_bytes : issuer_auth.bytes ≡ copy.issuer_auth
  pub under_spaces : entry part keys.NameSpaces ≡ Ok (Some map)
  pub entries_are : pairs_in map ≡ Some entries
  pub spaces_lie : AllZip (NamespaceLies all) entries spaces
  pub items_are : flat_map spread spaces ≡ copy.items

-- a document: its type, and the array of its copies
pub record DocumentLies (all part : Part) (document : Document) : Type 0 where
  pub type_part : Part
  pub array : Part
  pub parts : List Part
  pub stands_in : LiesIn all part
  pub under_type : entry part keys.DocType ≡ Ok (Some type_part)
  pub type_lies : StringLies text_in all type_part document.doc_type
  pub under_copies : entry part keys.Copies ≡ Ok (Some array)
  pub parts_are : items_in array ≡ Some parts
  pub copies_lie : AllZip (CopyLies all) parts document.copies

-- the file: the array of its documents
pub record StoreLies (bytes : List ℕ) (documents : Store) : Type 0 where
  pub array : Part
  pub parts : List Part
  pub under_documents : entry (whole_part bytes) keys.Documents ≡ Ok (Some array)
  pub parts_are : items_in array ≡ Some parts
  pub documents_lie : AllZip (DocumentLies (whole_part bytes)) parts documents

-- The law: what is read of a store lies in its file.
abbrev pub AreStoredPartsThere : Type 0
AreStoredPartsThere = (bytes : List ℕ) (documents : Store) → store bytes ≡ Some documents → StoreLies bytes documents
