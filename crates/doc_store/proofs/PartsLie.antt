-- What is read of a store stands in its bytes.
use Rattle.std.proofs.Common.{◌≡◌, ℕ, zero, suc, Bool, true, false, ◌&&◌, cond, List, [], ◌∷◌, ◌++◌, map, length, Option, Some, None, Result, Ok, Err, refl, sym, subst}
use Rattle.std.specs.Prelude.{is_some, nat_le, option_map, unwrap_or, find, slice_get}
use Rattle.std.specs.List.{flat_map}
use Rattle.cbor_view.specs.declared.cbor_fault.CborFault.{CborFault}
use Rattle.cbor_view.specs.Reading.{reads}
use Rattle.cbor_view.specs.Tree.{Tree}
use Rattle.cbor_view.specs.Parts.{Part, LiesIn, BothLieIn, AllLieIn, PairsLieIn, cbor, part_of, items_in, pairs_in}
use Rattle.cbor_view.proofs.Contents.{items-lie, pairs-lie, text-end}
use Rattle.cbor_view.proofs.Places.{within-within}
use Rattle.cbor_maps.specs.Contents.{IsPart}
use Rattle.cbor_maps.specs.Reading.{field, any_in}
use Rattle.cbor_maps.specs.declared.map_fault.MapFault.{MapFault}
use Rattle.cbor_maps.proofs.Within.{part-within, lies-part, ends-part, under-lies, field-read, text-under, items-under}
use Rattle.mdoc_outside.specs.declared.key_name.KeyName.{KeyName}
use Rattle.mdoc_outside.specs.declared.key_name.KeyName.TheVariants as keys
use Rattle.mdoc_outside.specs.OptionSteps.{◌>>=◌, where_true, each}
use Rattle.doc_store.specs.CopyFields.{issuer_auth_in, spaces_in}
use Rattle.doc_store.specs.DocumentFields.{doc_type_in}
use Rattle.doc_store.specs.Fields.{if_read, field_of}
use Rattle.doc_store.specs.Held.{is_item, held}
use Rattle.doc_store.specs.HeldItem.{no_space}
use Rattle.doc_store.specs.Parts.{value_or}
use Rattle.doc_store.specs.PartsLie.{AreItemParts}
use Rattle.doc_store.specs.Store.{Copy, name_in, within, namespace, spread}
use Rattle.doc_store.proofs.HeldItems.{space_parts}
use Rattle.doc_store.proofs.Readers.{first_of_each}
use Rattle.doc_store.proofs.SpaceLaw.{name_is_text}

-- ---- fields

field-ok : {A : Type 0} (name : KeyName) (kind : Part → Option A) (p : Part) (x : A) → field_of name kind p ≡ Some x → field name kind p ≡ Ok x
field-ok {A} name kind p x e = go (field name kind p) e where
  go : (r : Result A MapFault) → if_read r ≡ Some x → r ≡ Ok x
  go (Ok y) e = cc
  go (Err fault) e = cc

-- the parts of a list under a key stand in the map
pub list-lies : (name : KeyName) (least most : ℕ) (p : Part) (parts : List Part) → (field_of name items_in p >>= within least most) ≡ Some parts → AllLieIn p parts
list-lies name least most p parts e = go (field_of name items_in p) refl e where
  all-lie : (all : List Part) → field_of name items_in p ≡ Some all → AllLieIn p all
  all-lie all is = let read = field-read name items_in p all (field-ok name items_in p all is) in items-under p read.item name all read.under read.is

  by : (b : Bool) (all : List Part) → field_of name items_in p ≡ Some all → where_true b all ≡ Some parts → AllLieIn p parts
  by true all is e = let same : all ≡ parts = cc in subst (AllLieIn p) same (all-lie all is)
  by false all is e = cc

  go : (o : Option (List Part)) → field_of name items_in p ≡ o → (o >>= within least most) ≡ Some parts → AllLieIn p parts
  go None is e = cc
  go (Some all) is e = by (nat_le least (length all) && nat_le (length all) most) all is e

-- a document's type stands in it
pub type-part : (p : Part) (text : List ℕ) → doc_type_in p ≡ Some text → IsPart p.bytes text
type-part p text e =
    let read = field-read keys.DocType name_in p text (field-ok keys.DocType name_in p text e) in
    text-under p read.item keys.DocType text read.under (name_is_text read.item text read.is)

-- the issuer's signature of a copy
pub auth-lies : (p q : Part) → issuer_auth_in p ≡ Some q → LiesIn p q
auth-lies p q e = go (field_of keys.IssuerAuth any_in p) refl e where
  by : (auth : Part) → field_of keys.IssuerAuth any_in p ≡ Some auth → (o : Option (List Part)) → (o >>= λ parts. Some auth) ≡ Some q → LiesIn p q
  by auth is None e = cc
  by auth is (Some parts) e =
      let read = field-read keys.IssuerAuth any_in p auth (field-ok keys.IssuerAuth any_in p auth is) in
      let same : read.item ≡ q = cc in
      subst (LiesIn p) same (under-lies p read.item keys.IssuerAuth read.under)

  go : (o : Option Part) → field_of keys.IssuerAuth any_in p ≡ o → (o >>= λ auth. (items_in auth >>= within 4 4) >>= λ parts. Some auth) ≡ Some q → LiesIn p q
  go None is e = cc
  go (Some auth) is e = by auth is (items_in auth >>= within 4 4) e

-- the entries of its namespaces
pub spaces-lie : (p : Part) (entries : List (Part × Part)) → spaces_in p ≡ Some entries → PairsLieIn p entries
spaces-lie p entries e =
    let read = field-read keys.NameSpaces pairs_in p entries (field-ok keys.NameSpaces pairs_in p entries e) in
    go read.item (under-lies p read.item keys.NameSpaces read.under) entries (pairs-lie read.item entries read.is) where
      go : (map : Part) → LiesIn p map → (es : List (Part × Part)) → PairsLieIn map es → PairsLieIn p es
      go map stands_in [] all = tt
      go map stands_in (entry ∷ es) all = ((within-within p map entry.0 stands_in all.0.0, within-within p map entry.1 stands_in all.0.1), go map stands_in es all.1)

-- ---- the part at a place

pub part-at : (p : Part) (parts : List Part) (n : ℕ) (q : Part) → AllLieIn p parts → slice_get parts n ≡ Some q → LiesIn p q
part-at p [] n q all e = cc
part-at p (x ∷ xs) zero q all e = let same : x ≡ q = cc in subst (LiesIn p) same all.0
part-at p (x ∷ xs) (suc n) q all e = part-at p xs n q all.1 e

-- ---- the items of a copy

spread-parts : (p value : Part) (own : List ℕ) (parts : List Part) → LiesIn p value → IsPart p.bytes own → AllLieIn value parts →
    AreItemParts p.bytes (spread (own, map (λ (part : Part). part.bytes) parts))
spread-parts p value own [] stands_in name all = tt
spread-parts p value own (part ∷ parts) stands_in name all =
    (record { ns = name; raw = part-within p.bytes value.bytes part.bytes (lies-part p value stands_in) (lies-part value part all.0) }, spread-parts p value own parts stands_in name all.1)

space-part : (p : Part) (entry : Part × Part) → BothLieIn p entry → is_some (namespace entry) ≡ true → AreItemParts p.bytes (spread (value_or no_space namespace entry))
space-part p entry lie read =
    let space = space_parts entry.0 entry.1 read in
    let name : IsPart p.bytes space.own = part-within p.bytes entry.0.bytes space.own (lies-part p entry.0 lie.0) (ends-part entry.0.bytes space.own (text-end entry.0 space.own space.text)) in
    rw space.given (spread-parts p entry.1 space.own space.parts lie.1 name (items-lie entry.1 space.parts space.array))

both-parts : (bytes : List ℕ) (items others : List (List ℕ × List ℕ)) → AreItemParts bytes items → AreItemParts bytes others → AreItemParts bytes (items ++ others)
both-parts bytes [] others one other = other
both-parts bytes (item ∷ items) others one other = (one.0, both-parts bytes items others one.1 other)

-- each item of the namespaces stands in the copy, and so does its namespace's name
pub item-parts : (p : Part) (entries : List (Part × Part)) → PairsLieIn p entries → is_some (each namespace entries) ≡ true →
    AreItemParts p.bytes (flat_map spread (unwrap_or (each namespace entries) []))
item-parts p [] lie read = tt
item-parts p (entry ∷ entries) lie read =
    let first = first_of_each namespace no_space entry entries read in
    rw first.whole
    (both-parts p.bytes (spread (value_or no_space namespace entry)) (flat_map spread (unwrap_or (each namespace entries) []))
    (space-part p entry lie.0 first.read) (item-parts p entries lie.1 first.rest))

-- the one of a namespace and name among them
pub found-part : (bytes ns name raw : List ℕ) (items : List (List ℕ × List ℕ)) → AreItemParts bytes items →
    option_map (λ (stored : List ℕ × List ℕ). stored.1) (find (is_item ns name) items) ≡ Some raw → IsPart bytes raw
found-part bytes ns name raw [] all e = cc
found-part bytes ns name raw (item ∷ items) all e = go (is_item ns name item) (found-part bytes ns name raw items all.1) e where
  go : (b : Bool) → (option_map (λ (stored : List ℕ × List ℕ). stored.1) (find (is_item ns name) items) ≡ Some raw → IsPart bytes raw) →
      option_map (λ (stored : List ℕ × List ℕ). stored.1) (cond b (Some item) (find (is_item ns name) items)) ≡ Some raw → IsPart bytes raw
  go true rest e = let same : item.1 ≡ raw = cc in subst (IsPart bytes) same all.0.raw
  go false rest e = rest e

pub held-part : (p : Part) (copy : Copy) (entries : List (Part × Part)) (ns name raw : List ℕ) → PairsLieIn p entries → is_some (each namespace entries) ≡ true →
    copy.items ≡ flat_map spread (unwrap_or (each namespace entries) []) → held copy ns name ≡ Some raw → IsPart p.bytes raw
held-part p copy entries ns name raw lie read all e =
    found-part p.bytes ns name raw copy.items (subst (AreItemParts p.bytes) (sym all) (item-parts p entries lie read)) e

-- ---- the whole file

pub whole-part : (bytes : List ℕ) (p : Part) → cbor bytes ≡ Ok p → p ≡ record { at = 0; bytes = bytes }
whole-part bytes p e = go (reads bytes) e where
  go : (r : Result Tree CborFault) → part_of bytes r ≡ Ok p → p ≡ record { at = 0; bytes = bytes }
  go (Ok tree) e = cc
  go (Err fault) e = cc
