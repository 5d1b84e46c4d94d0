-- What is read of a store is nested at most so deep as the form leaves room for.
use Rattle.std.proofs.Common.{◌≡◌, ℕ, suc, Bool, true, false, cond, List, [], ◌∷◌, ◌++◌, map, Option, Some, Result, Ok, Err, IsOk, is_ok, refl, ap, subst, zero}
use Rattle.std.specs.Prelude.{find, option_map, slice_get}
use Rattle.std.specs.List.{AllByRecursion, flat_map}
use Rattle.mdoc_outside.specs.declared.key_name.KeyName.{KeyName}
use Rattle.mdoc_outside.specs.declared.key_name.KeyName.TheVariants as keys
use Rattle.cbor_view.specs.declared.cbor_fault.CborFault.{CborFault}
use Rattle.cbor_view.specs.Parts.{Part, cbor, part_of, items_in, pairs_in}
use Rattle.cbor_view.specs.Reading.{reads, tree_of}
use Rattle.cbor_view.specs.Spelling as spelling
use Rattle.cbor_view.specs.Tree.{Tree}
use Rattle.cbor_view.proofs.Splitting.{is-read}
use Rattle.cbor_view.proofs.WholeReading.{reads-spells}
use Rattle.cbor_maps.specs.Reading.{any_in}
use Rattle.cbor_maps.proofs.Within.{field-read}
use Rattle.issuer_items.specs.Item as items
use Rattle.issuer_items.specs.declared.item_fault.ItemFault.{ItemFault}
use Rattle.doc_store.specs.Fields.{field_of}
use Rattle.doc_store.specs.Held.{held, is_item}
use Rattle.doc_store.specs.Item.{item, if_item}
use Rattle.doc_store.specs.Store.{Copy, Document, Store, copy, document, named_item, namespace, spread, store}
use Rattle.store_write.specs.Nested.{IsNested, IsNestedItem, IsNestedCopy, IsNestedDocument}
use Rattle.store_write.proofs.StoredFields.{field-ok, copy-fields, document-fields, file-fields, space-fields, spaces-fields, item-fields, each-all}
use Rattle.store_write.proofs.Nesting.{IsDeep, BothDeep, items-deep, pairs-deep, entry-deep}

-- ---- the value under a key

pub record UnderKey {A : Type 0} (d : ℕ) (kind : Part → Option A) (x : A) : Type 0 where
  pub item : Part
  pub deep : IsDeep d item
  pub is : kind item ≡ Some x

pub field-deep : {A : Type 0} (d : ℕ) (name : KeyName) (kind : Part → Option A) (p : Part) (x : A) → IsDeep (suc d) p → field_of name kind p ≡ Some x → UnderKey d kind x
field-deep d name kind p x deep e =
    let f = field-read name kind p x (field-ok name kind p x e) in
    record { item = f.item; deep = entry-deep d p f.item name deep f.under; is = f.is }

pub nested : (d : ℕ) (p : Part) → IsDeep d p → IsNested d p.bytes
nested d p deep = record { read = deep.read.ok; nesting = deep.nesting }

-- ---- items

if-item : (r : Result items.Item ItemFault) (read : items.Item) → if_item r ≡ Some read → IsOk r
if-item (Ok it) read e = refl
if-item (Err fault) read e = absurd (cc)

item-ok : (raw : List ℕ) (read : items.Item) → item raw ≡ Some read → IsOk (items.item raw)
unfolding item
item-ok raw read e = if-item (items.item raw) read e

abbrev Stored : List ℕ × List ℕ → Type 0
Stored stored = IsNestedItem stored.1

item-nested : (p : Part) (named : List ℕ × List ℕ) → IsDeep 25 p → named_item p ≡ Some named → Stored named
item-nested p named deep e =
    let f = item-fields p named e in
    let raw : p.bytes ≡ named.1 = ap (λ (x : List ℕ × List ℕ). x.1) f.is in
    subst IsNestedItem raw (record { nested = nested 25 p deep; item = item-ok p.bytes f.read f.read_is })

spread-nested : (ns : List ℕ) (named : List (List ℕ × List ℕ)) → AllByRecursion Stored named →
    AllByRecursion Stored (spread (ns, map (λ (n : List ℕ × List ℕ). n.1) named))
spread-nested ns [] all = tt
spread-nested ns (n ∷ named) all = (all.0, spread-nested ns named all.1)

abbrev SpaceNested : List ℕ × List (List ℕ) → Type 0
SpaceNested space = AllByRecursion Stored (spread space)

space-nested : (entry : Part × Part) (space : List ℕ × List (List ℕ)) → BothDeep 26 entry → namespace entry ≡ Some space → SpaceNested space
space-nested entry space deep e =
    let f = space-fields entry space e in
    let parts = items-deep 25 entry.1 f.parts deep.1 f.parts_are in
    let all = each-all named_item (IsDeep 25) Stored item-nested f.parts f.named parts f.named_are in
    subst (λ (raws : List (List ℕ)). SpaceNested (space.0, raws)) f.raws (spread-nested space.0 f.named all)

both-nested : (one other : List (List ℕ × List ℕ)) → AllByRecursion Stored one → AllByRecursion Stored other → AllByRecursion Stored (one ++ other)
both-nested [] other all rest = rest
both-nested (x ∷ one) other all rest = (all.0, both-nested one other all.1 rest)

spaces-nested : (spaces : List (List ℕ × List (List ℕ))) → AllByRecursion SpaceNested spaces → AllByRecursion Stored (flat_map spread spaces)
spaces-nested [] all = tt
spaces-nested (space ∷ spaces) all = both-nested (spread space) (flat_map spread spaces) all.0 (spaces-nested spaces all.1)

-- ---- a copy, a document, the file

pub copy-nested : (p : Part) (c : Copy) → IsDeep 28 p → copy p ≡ Some c → IsNestedCopy c
copy-nested p c deep e =
    let f = copy-fields p c e in
    let auth = field-deep 27 keys.IssuerAuth any_in p f.auth deep f.auth_is in
    let same : auth.item ≡ f.auth = cc in
    let spaces = field-deep 27 keys.NameSpaces pairs_in p f.spaces deep f.spaces_are in
    let entries = pairs-deep 26 spaces.item f.spaces spaces.deep spaces.is in
    let s = spaces-fields f.spaces c.items f.items in
    let all = each-all namespace (BothDeep 26) SpaceNested space-nested f.spaces s.spaces entries s.spaces_are in
    record {
      issuer_auth = subst (IsNested 27) f.auth_bytes (nested 27 f.auth (subst (IsDeep 27) same auth.deep));
      items = subst (AllByRecursion Stored) s.all (spaces-nested s.spaces all);
    }

pub document-nested : (p : Part) (d : Document) → IsDeep 30 p → document p ≡ Some d → IsNestedDocument d
document-nested p d deep e =
    let f = document-fields p d e in
    let list = field-deep 29 keys.Copies items_in p f.parts deep f.parts_are in
    each-all copy (IsDeep 28) IsNestedCopy copy-nested f.parts d.copies (items-deep 28 list.item f.parts list.deep list.is) f.copies

pub whole-file : (bytes : List ℕ) (file : Part) → spelling.AreBytes bytes → cbor bytes ≡ Ok file → IsDeep 32 file
whole-file bytes file are e = go (reads bytes) refl e where
  go : (r : Result Tree CborFault) → reads bytes ≡ r → part_of bytes r ≡ Ok file → IsDeep 32 file
  go (Err fault) read e = absurd (cc)
  go (Ok tree) read e =
      let same : record { at = 0; bytes = bytes } ≡ file = cc in
      let ok : IsOk (reads bytes) = ap is_ok read in
      let nesting = (reads-spells bytes (tree_of bytes) (record { each = are }) (is-read bytes ok)).nesting in
      subst (IsDeep 32) same (record { read = record { are = record { each = are }; ok = ok }; nesting = nesting })

pub stored-nested : (bytes : List ℕ) (documents : Store) → spelling.AreBytes bytes → store bytes ≡ Some documents → AllByRecursion IsNestedDocument documents
stored-nested bytes documents are e =
    let f = file-fields bytes documents e in
    let list = field-deep 31 keys.Documents items_in f.file f.parts (whole-file bytes f.file are f.file_is) f.parts_are in
    each-all document (IsDeep 30) IsNestedDocument document-nested f.parts documents (items-deep 30 list.item f.parts list.deep list.is) f.read

-- ---- an item that is held

found-nested : (ns name raw : List ℕ) (stored : List (List ℕ × List ℕ)) → AllByRecursion Stored stored →
    option_map (λ (s : List ℕ × List ℕ). s.1) (find (is_item ns name) stored) ≡ Some raw → IsNestedItem raw
found-nested ns name raw [] all e = absurd (cc)
found-nested ns name raw (s ∷ stored) all e = go (is_item ns name s) (found-nested ns name raw stored all.1) e where
  go : (b : Bool) → (option_map (λ (x : List ℕ × List ℕ). x.1) (find (is_item ns name) stored) ≡ Some raw → IsNestedItem raw) →
      option_map (λ (x : List ℕ × List ℕ). x.1) (cond b (Some s) (find (is_item ns name) stored)) ≡ Some raw → IsNestedItem raw
  go true rest e = let same : s.1 ≡ raw = cc in subst IsNestedItem same all.0
  go false rest e = rest e

pub held-nested : (c : Copy) (ns name raw : List ℕ) → IsNestedCopy c → held c ns name ≡ Some raw → IsNestedItem raw
held-nested c ns name raw nested e = found-nested ns name raw c.items nested.items e

-- ---- a copy at a place

at-place : {A : Type 0} (P : A → Type 0) (xs : List A) (n : ℕ) (x : A) → AllByRecursion P xs → slice_get xs n ≡ Some x → P x
at-place P [] n x all e = absurd (cc)
at-place P (y ∷ xs) zero x all e = let same : y ≡ x = cc in subst P same all.0
at-place P (y ∷ xs) (suc n) x all e = at-place P xs n x all.1 e

pub placed-nested : (documents : Store) (document : Document) (copy : Copy) (n place : ℕ) → AllByRecursion IsNestedDocument documents → slice_get documents n ≡ Some document → slice_get document.copies place ≡ Some copy → IsNestedCopy copy
placed-nested documents document copy n place all at at_place = at-place IsNestedCopy document.copies place copy (at-place IsNestedDocument documents n document all at) at_place
