-- What is under the fields of a store that was read, of its documents and of their copies.
use Rattle.std.proofs.Common.{◌≡◌, ℕ, ◌==◌, ◌^◌, nat_le, nat_lt, Bool, true, false, ◌&&◌, List, [], ◌∷◌, length, map, Option, Some, None, Result, Ok, Err, refl, sym, ap, ◌∙◌, subst}
use Rattle.std.specs.List.{AllByRecursion, flat_map}
use Rattle.mdoc_outside.specs.OptionSteps.{◌>>=◌, where_true, each}
use Rattle.mdoc_outside.specs.declared.key_name.KeyName.{KeyName}
use Rattle.mdoc_outside.specs.declared.key_name.KeyName.TheVariants as keys
use Rattle.cbor_view.specs.declared.cbor_fault.CborFault.{CborFault}
use Rattle.cbor_view.specs.Parts.{Part, cbor, uint_in, boolean_in, items_in, pairs_in}
use Rattle.cbor_maps.specs.declared.map_fault.MapFault.{MapFault}
use Rattle.cbor_maps.specs.Reading.{field, any_in}
use Rattle.issuer_items.specs.Item.{Item}
use Rattle.doc_store.specs.Fields.{if_read, field_of, are_distinct}
use Rattle.doc_store.specs.Item.{item, if_spelled}
use Rattle.doc_store.specs.Store.{Copy, Document, Store, name_in, within, named_item, namespace, spread, items_of, copy, is_mac, document, store}

-- ---- steps that succeed

-- a step that gave a value, and what came after it
pub record Step {A B : Type 0} (o : Option A) (next : A → Option B) (y : B) : Type 0 where
  pub value : A
  pub is : o ≡ Some value
  pub after : next value ≡ Some y

pub step : {A B : Type 0} (o : Option A) (next : A → Option B) (y : B) → (o >>= next) ≡ Some y → Step o next y
step None next y e = absurd (cc)
step (Some x) next y e = record { value = x; is = refl; after = e }

-- a test that passed
pub record Passed {A : Type 0} (test : Bool) (x y : A) : Type 0 where
  pub holds : test ≡ true
  pub same : x ≡ y

pub passed : {A : Type 0} (test : Bool) (x y : A) → where_true test x ≡ Some y → Passed test x y
passed true x y e = record { holds = refl; same = cc }
passed false x y e = absurd (cc)

-- a list of so many
pub within-passed : {A : Type 0} (least most : ℕ) (xs ys : List A) → within least most xs ≡ Some ys → Passed (nat_le least (length xs) && nat_le (length xs) most) xs ys
within-passed least most xs ys e = passed (nat_le least (length xs) && nat_le (length xs) most) xs ys e

pub field-ok : {A : Type 0} (name : KeyName) (kind : Part → Option A) (p : Part) (x : A) → field_of name kind p ≡ Some x → field name kind p ≡ Ok x
field-ok {A} name kind p x e = go (field name kind p) e where
  go : (r : Result A MapFault) → if_read r ≡ Some x → r ≡ Ok x
  go (Ok y) e = cc
  go (Err fault) e = absurd (cc)

-- ---- a copy

pub record CopyFields (p : Part) (c : Copy) : Type 0 where
  pub key : field_of keys.Key uint_in p ≡ Some c.key
  pub small : nat_lt c.key (2 ^ 32) ≡ true
  pub used : field_of keys.Used boolean_in p ≡ Some c.used
  pub auth : Part
  pub auth_is : field_of keys.IssuerAuth any_in p ≡ Some auth
  pub auth_bytes : auth.bytes ≡ c.issuer_auth
  pub four : List Part
  pub four_are : (items_in auth >>= within 4 4) ≡ Some four
  pub spaces : List (Part × Part)
  pub spaces_are : field_of keys.NameSpaces pairs_in p ≡ Some spaces
  pub items : items_of spaces ≡ Some c.items

pub copy-fields : (p : Part) (c : Copy) → copy p ≡ Some c → CopyFields p c
copy-fields p c e =
    let a = step (field_of keys.Key uint_in p) _ c e in
    let b = step (where_true (nat_lt a.value (2 ^ 32)) a.value) _ c a.after in
    let small = passed (nat_lt a.value (2 ^ 32)) a.value b.value b.is in
    let d = step (field_of keys.Used boolean_in p) _ c b.after in
    let f = step (field_of keys.IssuerAuth any_in p) _ c d.after in
    let g = step (items_in f.value >>= within 4 4) _ c f.after in
    let h = step (field_of keys.NameSpaces pairs_in p) _ c g.after in
    let i = step (items_of h.value) _ c h.after in
    let whole : record { key = b.value; used = d.value; issuer_auth = f.value.bytes; items = i.value } ≡ c = cc in
    let key : a.value ≡ c.key = small.same ∙ ap (λ (x : Copy). x.key) whole in
    record {
      key = a.is ∙ ap (λ (n : ℕ). Some n) key;
      small = ap (λ (n : ℕ). nat_lt n (2 ^ 32)) (sym key) ∙ small.holds;
      used = d.is ∙ ap (λ (x : Copy). Some x.used) whole;
      auth = f.value;
      auth_is = f.is;
      auth_bytes = ap (λ (x : Copy). x.issuer_auth) whole;
      four = g.value;
      four_are = g.is;
      spaces = h.value;
      spaces_are = h.is;
      items = i.is ∙ ap (λ (x : Copy). Some x.items) whole;
    }

-- ---- a document

pub record DocumentFields (p : Part) (d : Document) : Type 0 where
  pub doc_type : field_of keys.DocType name_in p ≡ Some d.doc_type
  pub auth : ℕ
  pub auth_is : field_of keys.Auth uint_in p ≡ Some auth
  pub mac : is_mac auth ≡ Some d.uses_mac
  pub parts : List Part
  pub parts_are : field_of keys.Copies items_in p ≡ Some parts
  pub count : nat_le 1 (length parts) && nat_le (length parts) 64 ≡ true
  pub copies : each copy parts ≡ Some d.copies

pub document-fields : (p : Part) (d : Document) → document p ≡ Some d → DocumentFields p d
document-fields p d e =
    let a = step (field_of keys.DocType name_in p) _ d e in
    let b = step (field_of keys.Auth uint_in p >>= is_mac) _ d a.after in
    let auth = step (field_of keys.Auth uint_in p) is_mac b.value b.is in
    let f = step (field_of keys.Copies items_in p >>= within 1 64 >>= each copy) _ d b.after in
    let g = step (field_of keys.Copies items_in p >>= within 1 64) (each copy) f.value f.is in
    let h = step (field_of keys.Copies items_in p) (within 1 64) g.value g.is in
    let few = within-passed 1 64 h.value g.value h.after in
    let whole : record { doc_type = a.value; uses_mac = b.value; copies = f.value } ≡ d = cc in
    record {
      doc_type = a.is ∙ ap (λ (x : Document). Some x.doc_type) whole;
      auth = auth.value;
      auth_is = auth.is;
      mac = auth.after ∙ ap (λ (x : Document). Some x.uses_mac) whole;
      parts = h.value;
      parts_are = h.is;
      count = few.holds;
      copies = ap (each copy) few.same ∙ g.after ∙ ap (λ (x : Document). Some x.copies) whole;
    }

-- ---- the file

pub record FileFields (bytes : List ℕ) (documents : Store) : Type 0 where
  pub file : Part
  pub file_is : cbor bytes ≡ Ok file
  pub parts : List Part
  pub parts_are : field_of keys.Documents items_in file ≡ Some parts
  pub count : nat_le 0 (length parts) && nat_le (length parts) 16 ≡ true
  pub read : each document parts ≡ Some documents
  pub distinct : are_distinct (map (λ (d : Document). d.doc_type) documents) ≡ true

spelled : (r : Result Part CborFault) (p : Part) → if_spelled r ≡ Some p → r ≡ Ok p
spelled (Ok q) p e = cc
spelled (Err fault) p e = absurd (cc)

pub file-fields : (bytes : List ℕ) (documents : Store) → store bytes ≡ Some documents → FileFields bytes documents
unfolding store
file-fields bytes documents e =
    let a = step (if_spelled (cbor bytes)) _ documents e in
    let b = step (field_of keys.Version uint_in a.value >>= λ n. where_true (n == 1) n) _ documents a.after in
    let f = step (field_of keys.Documents items_in a.value >>= within 0 16 >>= each document) _ documents b.after in
    let distinct = passed (are_distinct (map (λ (d : Document). d.doc_type) f.value)) f.value documents f.after in
    let g = step (field_of keys.Documents items_in a.value >>= within 0 16) (each document) f.value f.is in
    let h = step (field_of keys.Documents items_in a.value) (within 0 16) g.value g.is in
    let few = within-passed 0 16 h.value g.value h.after in
    record {
      file = a.value;
      file_is = spelled (cbor bytes) a.value a.is;
      parts = h.value;
      parts_are = h.is;
      count = few.holds;
      read = ap (each document) few.same ∙ g.after ∙ ap (λ (x : Store). Some x) distinct.same;
      distinct = ap (λ (x : Store). are_distinct (map (λ (d : Document). d.doc_type) x)) (sym distinct.same) ∙ distinct.holds;
    }

-- ---- a namespace

pub record SpaceFields (entry : Part × Part) (space : List ℕ × List (List ℕ)) : Type 0 where
  pub name : name_in entry.0 ≡ Some space.0
  pub parts : List Part
  pub parts_are : items_in entry.1 ≡ Some parts
  pub named : List (List ℕ × List ℕ)
  pub named_are : each named_item parts ≡ Some named
  pub distinct : are_distinct (map (λ (n : List ℕ × List ℕ). n.0) named) ≡ true
  pub raws : map (λ (n : List ℕ × List ℕ). n.1) named ≡ space.1

pub space-fields : (entry : Part × Part) (space : List ℕ × List (List ℕ)) → namespace entry ≡ Some space → SpaceFields entry space
space-fields entry space e =
    let a = step (name_in entry.0) _ space e in
    let b = step (items_in entry.1 >>= each named_item) _ space a.after in
    let f = step (items_in entry.1) (each named_item) b.value b.is in
    let last = passed (are_distinct (map (λ (n : List ℕ × List ℕ). n.0) b.value)) (a.value, map (λ (n : List ℕ × List ℕ). n.1) b.value) space b.after in
    record {
      name = a.is ∙ ap (λ (x : List ℕ × List (List ℕ)). Some x.0) last.same;
      parts = f.value;
      parts_are = f.is;
      named = b.value;
      named_are = f.after;
      distinct = last.holds;
      raws = ap (λ (x : List ℕ × List (List ℕ)). x.1) last.same;
    }

-- ---- the namespaces of a copy

pub record SpacesFields (entries : List (Part × Part)) (items : List (List ℕ × List ℕ)) : Type 0 where
  pub count : nat_le 0 (length entries) && nat_le (length entries) 16 ≡ true
  pub spaces : List (List ℕ × List (List ℕ))
  pub spaces_are : each namespace entries ≡ Some spaces
  pub distinct : are_distinct (map (λ (space : List ℕ × List (List ℕ)). space.0) spaces) ≡ true
  pub few : nat_le 0 (length items) && nat_le (length items) 512 ≡ true
  pub all : flat_map spread spaces ≡ items

pub spaces-fields : (entries : List (Part × Part)) (items : List (List ℕ × List ℕ)) → items_of entries ≡ Some items → SpacesFields entries items
spaces-fields entries items e =
    let a = step (within 0 16 entries >>= each namespace) _ items e in
    let b = step (within 0 16 entries) (each namespace) a.value a.is in
    let few = within-passed 0 16 entries b.value b.is in
    let f = step (where_true (are_distinct (map (λ (space : List ℕ × List (List ℕ)). space.0) a.value)) a.value) _ items a.after in
    let names = passed (are_distinct (map (λ (space : List ℕ × List (List ℕ)). space.0) a.value)) a.value f.value f.is in
    let last = within-passed 0 512 (flat_map spread f.value) items f.after in
    record {
      count = few.holds;
      spaces = a.value;
      spaces_are = ap (each namespace) few.same ∙ b.after;
      distinct = names.holds;
      few = ap (λ (x : List (List ℕ × List ℕ)). nat_le 0 (length x) && nat_le (length x) 512) (sym last.same) ∙ last.holds;
      all = ap (flat_map spread) names.same ∙ last.same;
    }

-- ---- an item

pub record ItemFields (p : Part) (named : List ℕ × List ℕ) : Type 0 where
  pub read : Item
  pub read_is : item p.bytes ≡ Some read
  pub limits : nat_le (length read.name) 128 && nat_le (length read.value) 262144 ≡ true
  pub is : (read.name, p.bytes) ≡ named

pub item-fields : (p : Part) (named : List ℕ × List ℕ) → named_item p ≡ Some named → ItemFields p named
item-fields p named e =
    let a = step (item p.bytes) _ named e in
    let last = passed (nat_le (length a.value.name) 128 && nat_le (length a.value.value) 262144) (a.value.name, p.bytes) named a.after in
    record { read = a.value; read_is = a.is; limits = last.holds; is = last.same }

-- ---- what holds of each

-- what is read of each of a list
pub each-all : {A B : Type 0} (f : A → Option B) (P : A → Type 0) (Q : B → Type 0) → ((x : A) (y : B) → P x → f x ≡ Some y → Q y) →
    (xs : List A) (ys : List B) → AllByRecursion P xs → each f xs ≡ Some ys → AllByRecursion Q ys
each-all f P Q known [] ys all e = let same : [] ≡ ys = cc in subst (AllByRecursion Q) same tt
each-all {A} {B} f P Q known (x ∷ xs) ys all e =
    let one = step (f x) _ ys e in
    let rest = step (each f xs) _ ys one.after in
    let same : one.value ∷ rest.value ≡ ys = cc in
    subst (AllByRecursion Q) same (known x one.value all.0 one.is, each-all f P Q known xs rest.value all.1 rest.is)
