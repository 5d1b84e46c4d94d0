-- A store that is written is one item, and each of its parts is one.
use Rattle.std.proofs.Common.{◌≡◌, ◌<◌, ◌≤◌, ◌^◌, ℕ, Bool, true, false, List, [], ◌∷◌, length, map, inl, refl, arith}
use Rattle.std.specs.List.{AllByRecursion, flat_map}
use Rattle.std.proofs.lemmas.List.{length-append}
use Rattle.mdoc_outside.specs.declared.key_name.KeyName.{KeyName}
use Rattle.mdoc_outside.specs.declared.key_name.KeyName.TheVariants as keys
use Rattle.mdoc_outside.specs.KeyName.{key_text}
use Rattle.cbor_view.specs.Shortest.{array_bytes, boolean_bytes, text_bytes, uint_bytes}
use Rattle.cbor_view.specs.Tree.{Simple, Text, Unsigned}
use Rattle.cbor_view.proofs.WrittenParts.{AllPieces, ArePieces, IsPiece, piece-array, piece-map, piece-shortest}
use Rattle.cbor_maps.specs.Writing.{Fields, key_bytes, spelled_keys, with_values}
use Rattle.cbor_maps.specs.WrittenReads.{AreItems, SpellsItem}
use Rattle.cbor_maps.proofs.WrittenMaps.{is_ascii, named-map, utf8-ascii}
use Rattle.doc_response.specs.Answered.{grouped, items_map, namespace_entry}
use Rattle.doc_response.specs.WrittenReads.{IsText, spread_group}
use Rattle.doc_response.proofs.Grouping.{map-length}
use Rattle.doc_response.proofs.GroupsRead.{AreGroups, group-pieces, text-piece}
use Rattle.doc_store.specs.Store.{Copy, Document, Store}
use Rattle.store_write.specs.Written.{copy_bytes, copy_fields, document_bytes, document_fields, document_map, auth_number, store_fields}
use Rattle.store_write.specs.Storable.{IsName, IsNamespace, IsCopy, IsDocument, IsStore}

abbrev Group : Type 0
Group = List ℕ × List (List ℕ)

-- ---- pieces and items

pub piece-of : (d : ℕ) (bytes : List ℕ) → SpellsItem d bytes → IsPiece d bytes
piece-of d bytes s = record { item = s.item; spelled = s.spells.spelled; nesting = s.nesting }

pub pieces-of : (d : ℕ) (all : List (List ℕ)) → AllByRecursion (SpellsItem d) all → AllPieces d all
pieces-of d [] are = tt
pieces-of d (bytes ∷ all) are = (piece-of d bytes are.0, pieces-of d all are.1)

pub item-of : (d : ℕ) (bytes : List ℕ) → d ≤ 31 → IsPiece d bytes → SpellsItem 31 bytes
item-of d bytes few p = let n = p.nesting in record { item = p.item; spells = record { spelled = p.spelled; nesting = omega arith }; nesting = omega arith }

pub key-piece : (d : ℕ) (name : KeyName) → length (key_text name) < 2 ^ 32 → is_ascii (key_text name) ≡ true → IsPiece d (key_bytes name)
unfolding key_bytes
key-piece d name short ascii = piece-shortest d (Text (key_text name)) (short, utf8-ascii (key_text name) ascii) (omega arith)

pub uint-piece : (d n : ℕ) → n < 2 ^ 64 → IsPiece d (uint_bytes n)
uint-piece d n small = piece-shortest d (Unsigned n) small (omega arith)

pub boolean-piece : (d : ℕ) (b : Bool) → IsPiece d (boolean_bytes b)
boolean-piece d false = piece-shortest d (Simple 20) (inl (omega arith)) (omega arith)
boolean-piece d true = piece-shortest d (Simple 21) (inl (omega arith)) (omega arith)

pub name-text : (name : List ℕ) → IsName name → IsText name
name-text name is = let short = is.short in record { short = omega arith; utf8 = is.utf8 }

-- ---- the items of a copy

pub few-of-each : (groups : List Group) (most : ℕ) → length (flat_map spread_group groups) ≤ most → AllByRecursion (λ (g : Group). length g.1 ≤ most) groups
few-of-each [] most few = tt
few-of-each (g ∷ groups) most few =
    let both = length-append (spread_group g) (flat_map spread_group groups) in
    let own : length (spread_group g) ≡ length g.1 = map-length {B = List ℕ × List ℕ} (λ (raw : List ℕ). (g.0, raw)) g.1 in
    (omega (arith, both, own, few), few-of-each groups most (omega (arith, both, few)))

pub groups : (all : List Group) → AllByRecursion IsNamespace all → AllByRecursion (λ (g : Group). length g.1 ≤ 512) all → AreGroups 25 all
groups [] are few = tt
groups (g ∷ all) are few =
    let is = are.0 in
    let least = few.0 in
    (record { text = name-text g.0 is.name; items = pieces-of 25 g.1 is.nested; few = omega arith }, groups all are.1 few.1)

pub copy-groups : (c : Copy) → IsCopy c → AreGroups 25 (grouped c.items)
copy-groups c is = groups (grouped c.items) is.namespaces (few-of-each (grouped c.items) 512 is.few_items)

pub few-entries : (c : Copy) → IsCopy c → length (map namespace_entry (grouped c.items)) < 2 ^ 32
few-entries c is = let few = is.few_namespaces in omega (arith, few, map-length namespace_entry (grouped c.items))

pub items-piece : (c : Copy) → IsCopy c → IsPiece 27 (items_map c.items)
unfolding items_map
items-piece c is = piece-map 26 (map namespace_entry (grouped c.items)) (group-pieces 25 (grouped c.items) (copy-groups c is)) (few-entries c is)

-- ---- a copy

pub copy-items : (c : Copy) → IsCopy c → AreItems (with_values (copy_fields c))
copy-items c is =
    let key = is.key in
    let number = item-of 0 (uint_bytes c.key) (omega arith) (uint-piece 0 c.key (omega arith)) in
    let used = item-of 0 (boolean_bytes c.used) (omega arith) (boolean-piece 0 c.used) in
    let auth = item-of 27 c.issuer_auth (omega arith) (piece-of 27 c.issuer_auth is.issuer_auth) in
    let items = item-of 27 (items_map c.items) (omega arith) (items-piece c is) in
    (number, (used, (auth, (items, tt))))

copy-pieces : (c : Copy) → IsCopy c → ArePieces 27 (spelled_keys (with_values (copy_fields c)))
copy-pieces c is =
    let key = is.key in
    let items : ArePieces 27 ((key_bytes keys.NameSpaces, items_map c.items) ∷ []) = (key-piece 27 keys.NameSpaces (omega arith) refl, items-piece c is, tt) in
    let auth : ArePieces 27 ((key_bytes keys.IssuerAuth, c.issuer_auth) ∷ (key_bytes keys.NameSpaces, items_map c.items) ∷ []) = (key-piece 27 keys.IssuerAuth (omega arith) refl, piece-of 27 c.issuer_auth is.issuer_auth, items) in
    (key-piece 27 keys.Key (omega arith) refl, uint-piece 27 c.key (omega arith), (key-piece 27 keys.Used (omega arith) refl, boolean-piece 27 c.used, auth))

pub copy-piece : (c : Copy) → IsCopy c → IsPiece 28 (copy_bytes c)
unfolding copy_bytes
copy-piece c is = rw (named-map (copy_fields c)) (piece-map 27 (spelled_keys (with_values (copy_fields c))) (copy-pieces c is) (omega arith))

pub copies-pieces : (copies : List Copy) → AllByRecursion IsCopy copies → AllPieces 28 (map copy_bytes copies)
copies-pieces [] are = tt
copies-pieces (c ∷ copies) are = (copy-piece c are.0, copies-pieces copies are.1)

-- ---- a document

pub few-copies : (d : Document) → IsDocument d → length (map copy_bytes d.copies) < 2 ^ 32
few-copies d is = let few = is.few in omega (arith, few, map-length copy_bytes d.copies)

pub copies-piece : (d : Document) → IsDocument d → IsPiece 29 (array_bytes (map copy_bytes d.copies))
copies-piece d is = piece-array 28 (map copy_bytes d.copies) (copies-pieces d.copies is.copies) (few-copies d is)

pub auth-small : (b : Bool) → auth_number b < 2 ^ 64
auth-small true = omega arith
auth-small false = omega arith

abbrev pub fields_of : Document → Fields
fields_of d = document_fields d.doc_type d.uses_mac (map copy_bytes d.copies)

pub document-items : (d : Document) → IsDocument d → AreItems (with_values (fields_of d))
document-items d is =
    let name = item-of 0 (text_bytes d.doc_type) (omega arith) (text-piece 0 d.doc_type (name-text d.doc_type is.doc_type)) in
    let auth = item-of 0 (uint_bytes (auth_number d.uses_mac)) (omega arith) (uint-piece 0 (auth_number d.uses_mac) (auth-small d.uses_mac)) in
    let copies = item-of 29 (array_bytes (map copy_bytes d.copies)) (omega arith) (copies-piece d is) in
    (name, (auth, (copies, tt)))

document-pieces : (d : Document) → IsDocument d → ArePieces 29 (spelled_keys (with_values (fields_of d)))
document-pieces d is =
    let copies : ArePieces 29 ((key_bytes keys.Copies, array_bytes (map copy_bytes d.copies)) ∷ []) = (key-piece 29 keys.Copies (omega arith) refl, copies-piece d is, tt) in
    (key-piece 29 keys.DocType (omega arith) refl, text-piece 29 d.doc_type (name-text d.doc_type is.doc_type), (key-piece 29 keys.Auth (omega arith) refl, uint-piece 29 (auth_number d.uses_mac) (auth-small d.uses_mac), copies))

pub document-piece : (d : Document) → IsDocument d → IsPiece 30 (document_bytes d)
unfolding document_map
document-piece d is = rw (named-map (fields_of d)) (piece-map 29 (spelled_keys (with_values (fields_of d))) (document-pieces d is) (omega arith))

pub documents-pieces : (documents : Store) → AllByRecursion IsDocument documents → AllPieces 30 (map document_bytes documents)
documents-pieces [] are = tt
documents-pieces (d ∷ documents) are = (document-piece d are.0, documents-pieces documents are.1)

-- ---- the file

pub few-documents : (documents : Store) → IsStore documents → length (map document_bytes documents) < 2 ^ 32
few-documents documents is = let few = is.few in omega (arith, few, map-length document_bytes documents)

pub store-items : (documents : Store) → IsStore documents → AreItems (with_values (store_fields (map document_bytes documents)))
store-items documents is =
    let version = item-of 0 (uint_bytes 1) (omega arith) (uint-piece 0 1 (omega arith)) in
    let all = item-of 31 (array_bytes (map document_bytes documents)) (omega arith) (piece-array 30 (map document_bytes documents) (documents-pieces documents is.each) (few-documents documents is)) in
    (version, (all, tt))
