-- What is read of a store lies in its file.
use Rattle.std.proofs.Common.{◌≡◌, ℕ, List, [], ◌∷◌, map, Option, Some, Result, Ok, Err, ap, ◌∙◌, subst}
use Rattle.std.specs.List.{AllByRecursion, AllZip}
use Rattle.mdoc_outside.specs.declared.key_name.KeyName.{KeyName}
use Rattle.mdoc_outside.specs.declared.key_name.KeyName.TheVariants as keys
use Rattle.cbor_view.specs.Parts.{BothLieIn, LiesIn, Part, items_in, pairs_in, text_in}
use Rattle.cbor_view.proofs.Contents.{items-lie, pairs-lie}
use Rattle.cbor_view.proofs.Places.{within-within}
use Rattle.cbor_maps.specs.Reading.{any_in, entry}
use Rattle.cbor_maps.proofs.Within.{field-read, under-lies}
use Rattle.issuer_items.specs.Item as items
use Rattle.issuer_items.specs.declared.item_fault.ItemFault.{ItemFault}
use Rattle.doc_store.specs.Fields.{field_of}
use Rattle.doc_store.specs.Item.{if_item, item}
use Rattle.doc_store.specs.Store.{Copy, Document, copy, document, name_in, named_item, namespace}
use Rattle.doc_store.proofs.SpaceLaw.{name_is_text}
use Rattle.store_write.proofs.StoredFields.{copy-fields, document-fields, field-ok, file-fields, item-fields, space-fields, spaces-fields}
use Rattle.message_laws.specs.StringLies.{StringLies, whole_part}
use Rattle.message_laws.proofs.Items.{item-lies}
use Rattle.message_laws.proofs.Strings.{self-lies, text-lies, whole-lies}
use Rattle.store_laws.specs.StoreLies.{AreStoredPartsThere, CopyLies, DocumentLies, NamespaceLies, StoredItemLies}
use Rattle.store_laws.proofs.Zipped.{each-zip, zip-seen}

-- ---- the value under a key

-- it lies where the map does
record IsUnder {A : Type 0} (all map : Part) (name : KeyName) (kind : Part → Option A) (x : A) : Type 0 where
  item : Part
  under : entry map name ≡ Ok (Some item)
  stands_in : LiesIn all item
  is : kind item ≡ Some x

under-key : {A : Type 0} (all map : Part) (name : KeyName) (kind : Part → Option A) (x : A) → LiesIn all map → field_of name kind map ≡ Some x → IsUnder all map name kind x
under-key all map name kind x stands_in e =
    let f = field-read name kind map x (field-ok name kind map x e) in
    record { item = f.item; under = f.under; stands_in = within-within all map f.item stands_in (under-lies map f.item name f.under); is = f.is }

name-lies : (all p : Part) (name : List ℕ) → LiesIn all p → name_in p ≡ Some name → StringLies text_in all p name
name-lies all p name stands_in e = text-lies all p name stands_in (name_is_text p name e)

each-within : (all p : Part) (parts : List Part) → LiesIn all p → AllByRecursion (LiesIn p) parts → AllByRecursion (LiesIn all) parts
each-within all p [] stands_in each = tt
each-within all p (q ∷ qs) stands_in each = (within-within all p q stands_in each.0, each-within all p qs stands_in each.1)

pairs-within : (all p : Part) (entries : List (Part × Part)) → LiesIn all p → AllByRecursion (BothLieIn p) entries → AllByRecursion (BothLieIn all) entries
pairs-within all p [] stands_in each = tt
pairs-within all p (e ∷ es) stands_in each = ((within-within all p e.0 stands_in each.0.0, within-within all p e.1 stands_in each.0.1), pairs-within all p es stands_in each.1)

-- ---- items

if-read : (r : Result items.Item ItemFault) (read : items.Item) → if_item r ≡ Some read → r ≡ Ok read
if-read (Ok it) read e = cc
if-read (Err fault) read e = absurd (cc)

item-read : (raw : List ℕ) (read : items.Item) → item raw ≡ Some read → items.item raw ≡ Ok read
unfolding item
item-read raw read e = if-read (items.item raw) read e

abbrev raw_of : List ℕ × List ℕ → List ℕ
raw_of named = named.1

stored-lies : (all p : Part) (named : List ℕ × List ℕ) → LiesIn all p → named_item p ≡ Some named → StoredItemLies all p (raw_of named)
stored-lies all p named stands_in e =
    let f = item-fields p named e in
    let own = item-read p.bytes f.read f.read_is in
    let raw : p.bytes ≡ raw_of named = ap raw_of f.is in
    record {
      stands_in = stands_in;
      bytes = raw;
      read = f.read;
      read_is = subst (λ (b : List ℕ). items.item b ≡ Ok f.read) raw own;
      fields_stand_in_bytes = item-lies all p f.read stands_in own;
    }

space-lies : (all : Part) (under : Part × Part) (space : List ℕ × List (List ℕ)) → BothLieIn all under → namespace under ≡ Some space → NamespaceLies all under space
space-lies all under space lie e =
    let f = space-fields under space e in
    let parts = each-within all under.1 f.parts lie.1 (items-lie under.1 f.parts f.parts_are) in
    let named = each-zip named_item (LiesIn all) (λ p named. StoredItemLies all p (raw_of named)) (stored-lies all) f.parts f.named parts f.named_are in
    record {
      parts = f.parts;
      name_lies = name-lies all under.0 space.0 lie.0 f.name;
      array = f.parts_are;
      items_lie = subst (AllZip (StoredItemLies all) f.parts) f.raws (zip-seen (StoredItemLies all) raw_of f.parts f.named named);
    }

-- ---- copies and documents

copy-lies : (all p : Part) (c : Copy) → LiesIn all p → copy p ≡ Some c → CopyLies all p c
copy-lies all p c stands_in e =
    let f = copy-fields p c e in
    let auth = under-key all p keys.IssuerAuth any_in f.auth stands_in f.auth_is in
    let own : auth.item ≡ f.auth = (let is = auth.is in cc) in
    let map = under-key all p keys.NameSpaces pairs_in f.spaces stands_in f.spaces_are in
    let s = spaces-fields f.spaces c.items f.items in
    let entries = pairs-within all map.item f.spaces map.stands_in (pairs-lie map.item f.spaces map.is) in
    record {
      issuer_auth = auth.item;
      map = map.item;
      entries = f.spaces;
      spaces = s.spaces;
      stands_in = stands_in;
      under_auth = auth.under;
      auth_lies = auth.stands_in;
      auth_bytes = ap (λ (q : Part). q.bytes) own ∙ f.auth_bytes;
      under_spaces = map.under;
      entries_are = map.is;
      spaces_lie = each-zip namespace (BothLieIn all) (NamespaceLies all) (space-lies all) f.spaces s.spaces entries s.spaces_are;
      items_are = s.all;
    }

document-lies : (all p : Part) (d : Document) → LiesIn all p → document p ≡ Some d → DocumentLies all p d
document-lies all p d stands_in e =
    let f = document-fields p d e in
    let name = under-key all p keys.DocType name_in d.doc_type stands_in f.doc_type in
    let list = under-key all p keys.Copies items_in f.parts stands_in f.parts_are in
    let parts = each-within all list.item f.parts list.stands_in (items-lie list.item f.parts list.is) in
    record {
      type_part = name.item;
      array = list.item;
      parts = f.parts;
      stands_in = stands_in;
      under_type = name.under;
      type_lies = name-lies all name.item d.doc_type name.stands_in name.is;
      under_copies = list.under;
      parts_are = list.is;
      copies_lie = each-zip copy (LiesIn all) (CopyLies all) (copy-lies all) f.parts d.copies parts f.copies;
    }

-- ---- the file

pub stored-parts : AreStoredPartsThere
stored-parts bytes documents e =
    let f = file-fields bytes documents e in
    let whole = whole_part bytes in
    let file : f.file ≡ whole = (whole-lies bytes f.file f.file_is).0 in
    let list = under-key whole whole keys.Documents items_in f.parts (self-lies whole) (subst (λ (p : Part). field_of keys.Documents items_in p ≡ Some f.parts) file f.parts_are) in
    let parts = each-within whole list.item f.parts list.stands_in (items-lie list.item f.parts list.is) in
    record {
      array = list.item;
      parts = f.parts;
      under_documents = list.under;
      parts_are = list.is;
      documents_lie = each-zip document (LiesIn whole) (DocumentLies whole) (document-lies whole) f.parts documents parts f.read;
    }
