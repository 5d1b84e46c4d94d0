-- The items that a copy holds, a namespace at a time.
use Rattle.std.proofs.Common.{◌≡◌, ℕ, Bool, true, false, ◌&&◌, cond, List, [], ◌∷◌, length, map, Option, Some, None, refl, ap, ◌∙◌}
use Rattle.std.specs.Prelude.{is_some, option_map, unwrap_or, find, nat_le}
use Rattle.std.specs.List.{flat_map}
use Rattle.std.specs.Option.{option_or}
use Rattle.std.specs.Str.{bytes_eq}
use Rattle.std.proofs.lemmas.List.Folds.{find-append}
use Rattle.cbor_view.specs.Label.{is_words}
use Rattle.cbor_view.specs.Parts.{Part, text_in, items_in}
use Rattle.mdoc_outside.specs.OptionSteps.{◌>>=◌, where_true, each}
use Rattle.doc_store.specs.Fields.{are_distinct}
use Rattle.doc_store.specs.Held.{is_named, is_item}
use Rattle.doc_store.specs.HeldItem.{no_space, held_by, raws_in, is_raw}
use Rattle.doc_store.specs.SpaceItems.{beside}
use Rattle.issuer_items.specs.Item.{Item}
use Rattle.doc_store.specs.Item.{item}
use Rattle.doc_store.specs.Parts.{value_or}
use Rattle.doc_store.specs.Store.{within, named_item, namespace, spread, items_of}

abbrev NamedItem : Type 0
NamedItem = List ℕ × List ℕ

abbrev Space : Type 0
Space = List ℕ × List (List ℕ)

-- ---- the namespaces of a copy

pub record Spaces (entries : List (Part × Part)) (items : List NamedItem) : Type 0 where
  pub read : is_some (each namespace entries) ≡ true
  pub all : items ≡ flat_map spread (unwrap_or (each namespace entries) [])

-- the items of a copy are those of its namespaces
pub items_spaces : (entries : List (Part × Part)) (items : List NamedItem) → items_of entries ≡ Some items → Spaces entries items
items_spaces entries items given = by_count (nat_le 0 (length entries) && nat_le (length entries) 16) given where
  by_within : (spaces : List Space) (b : Bool) → each namespace entries ≡ Some spaces → where_true b (flat_map spread spaces) ≡ Some items → Spaces entries items
  by_within spaces false each_is e = cc
  by_within spaces true each_is e = record { read = rw each_is refl; all = let same : items ≡ flat_map spread spaces = cc in rw (each_is, same) refl }

  by_names : (spaces : List Space) (d : Bool) → each namespace entries ≡ Some spaces →
      (where_true d spaces >>= λ distinct. within 0 512 (flat_map spread distinct)) ≡ Some items → Spaces entries items
  by_names spaces false each_is e = cc
  by_names spaces true each_is e = by_within spaces _ each_is e

  by_spaces : (o : Option (List Space)) → each namespace entries ≡ o →
      (o >>= λ spaces. where_true (are_distinct (map (λ (space : Space). space.0) spaces)) spaces >>= λ distinct. within 0 512 (flat_map spread distinct)) ≡ Some items →
      Spaces entries items
  by_spaces None each_is e = cc
  by_spaces (Some spaces) each_is e = by_names spaces _ each_is e

  by_count : (b : Bool) →
      ((where_true b entries >>= each namespace) >>= λ spaces. where_true (are_distinct (map (λ (space : Space). space.0) spaces)) spaces >>= λ distinct. within 0 512 (flat_map spread distinct)) ≡ Some items →
      Spaces entries items
  by_count false e = cc
  by_count true e = by_spaces (each namespace entries) refl e

-- ---- one namespace and those after it

abbrev pub held_all : List ℕ → List ℕ → List Space → Option (List ℕ)
held_all ns name spaces = option_map (λ (stored : NamedItem). stored.1) (find (is_item ns name) (flat_map spread spaces))

map-or : {A B : Type 0} (f : A → B) (o p : Option A) → option_map f (option_or o p) ≡ option_or (option_map f o) (option_map f p)
map-or f None p = refl
map-or f (Some x) p = refl

pub held_all_step : (ns name : List ℕ) (space : Space) (spaces : List Space) →
    held_all ns name (space ∷ spaces) ≡ option_or (held_by ns name space) (held_all ns name spaces)
held_all_step ns name space spaces =
    ap (option_map (λ (stored : NamedItem). stored.1)) (find-append (is_item ns name) (spread space) (flat_map spread spaces))
    ∙ map-or (λ (stored : NamedItem). stored.1) (find (is_item ns name) (spread space)) (find (is_item ns name) (flat_map spread spaces))

-- ---- the items of one namespace

find-spread : (ns name own : List ℕ) (raws : List (List ℕ)) (b : Bool) → bytes_eq own ns ≡ b →
    option_map (λ (stored : NamedItem). stored.1) (find (is_item ns name) (map (λ raw. (own, raw)) raws)) ≡ cond b (find (is_raw name) raws) None
find-spread ns name own [] true e = refl
find-spread ns name own [] false e = refl
find-spread ns name own (raw ∷ raws) true e = rw e (step (is_named name (item raw)) (find-spread ns name own raws true e)) where
  step : (t : Bool) → option_map (λ (stored : NamedItem). stored.1) (find (is_item ns name) (map (λ raw. (own, raw)) raws)) ≡ find (is_raw name) raws →
      option_map (λ (stored : NamedItem). stored.1) (cond t (Some (own, raw)) (find (is_item ns name) (map (λ raw. (own, raw)) raws))) ≡ cond t (Some raw) (find (is_raw name) raws)
  step true rest = refl
  step false rest = rest
find-spread ns name own (raw ∷ raws) false e = rw e (find-spread ns name own raws false e)

-- an item is stored as the bytes of its part
each-raw : (parts : List Part) (items : List NamedItem) → each named_item parts ≡ Some items →
    map (λ (named : NamedItem). named.1) items ≡ map (λ (p : Part). p.bytes) parts
each-raw [] items given = let same : items ≡ [] = cc in rw same refl
each-raw (p ∷ parts) items given = go (item p.bytes) (each named_item parts) (each-raw parts) given where
  by_size : (read : Item) (b : Bool) (rest : Option (List NamedItem)) → ((rest_items : List NamedItem) → rest ≡ Some rest_items → map (λ (named : NamedItem). named.1) rest_items ≡ map (λ (q : Part). q.bytes) parts) →
      (where_true b (read.name, p.bytes) >>= λ x. rest >>= λ xs. Some (x ∷ xs)) ≡ Some items →
      map (λ (named : NamedItem). named.1) items ≡ map (λ (q : Part). q.bytes) (p ∷ parts)
  by_size read false rest known e = cc
  by_size read true None known e = cc
  by_size read true (Some rest_items) known e =
      let same : items ≡ (read.name, p.bytes) ∷ rest_items = cc in
      rw same (ap (λ raws. p.bytes ∷ raws) (known rest_items refl))

  go : (o : Option Item) (rest : Option (List NamedItem)) → ((rest_items : List NamedItem) → rest ≡ Some rest_items → map (λ (named : NamedItem). named.1) rest_items ≡ map (λ (q : Part). q.bytes) parts) →
      ((o >>= λ read. where_true (nat_le (length read.name) 128 && nat_le (length read.value) 262144) (read.name, p.bytes)) >>= λ x. rest >>= λ xs. Some (x ∷ xs)) ≡ Some items →
      map (λ (named : NamedItem). named.1) items ≡ map (λ (q : Part). q.bytes) (p ∷ parts)
  go None rest known e = cc
  go (Some read) rest known e = by_size read _ rest known e

-- a namespace by its parts
abbrev distinct : List NamedItem → Bool
distinct items = are_distinct (map (λ (named : NamedItem). named.0) items)

abbrev space_if : Bool → List ℕ → List NamedItem → Option Space
space_if test own items = where_true test (own, map (λ (named : NamedItem). named.1) items)

abbrev space_of : Option (List ℕ) → Option (List Part) → Option Space
space_of own parts = own >>= λ name. (parts >>= each named_item) >>= λ items. space_if (distinct items) name items

abbrev raws_of : List Part → List (List ℕ)
raws_of parts = map (λ (p : Part). p.bytes) parts

-- a namespace that can be read: its name is the key's text, and its items are the parts of the array
pub record SpaceParts (key value : Part) : Type 0 where
  pub own : List ℕ
  pub parts : List Part
  pub text : text_in key ≡ Some own
  pub array : items_in value ≡ Some parts
  pub given : value_or no_space namespace (key, value) ≡ (own, raws_of parts)

pub space_parts : (key value : Part) → is_some {T = Space} (namespace (key, value)) ≡ true → SpaceParts key value
space_parts key value read = by_text (text_in key) (items_in value) refl refl read where
  by_test : (own : List ℕ) (parts : List Part) (items : List NamedItem) (d : Bool) → text_in key ≡ Some own → items_in value ≡ Some parts →
      nat_le (length own) 128 ≡ true → each named_item parts ≡ Some items → distinct items ≡ d → is_some (space_if d own items) ≡ true → SpaceParts key value
  by_test own parts items false text array small each_is test e = cc
  by_test own parts items true text array small each_is test e = record {
    own = own;
    parts = parts;
    text = text;
    array = array;
    given = rw (text, array, small, each_is, test, each-raw parts items each_is) refl;
  }

  by_items : (own : List ℕ) (parts : List Part) (o : Option (List NamedItem)) → text_in key ≡ Some own → items_in value ≡ Some parts →
      nat_le (length own) 128 ≡ true → each named_item parts ≡ o → is_some (o >>= λ items. space_if (distinct items) own items) ≡ true → SpaceParts key value
  by_items own parts None text array small each_is e = cc
  by_items own parts (Some items) text array small each_is e = by_test own parts items (distinct items) text array small each_is refl e

  by_array : (own : List ℕ) (b : Bool) (o : Option (List Part)) → text_in key ≡ Some own → items_in value ≡ o →
      nat_le (length own) 128 ≡ b → is_some (space_of (where_true b own) o) ≡ true → SpaceParts key value
  by_array own false o text array small e = cc
  by_array own true None text array small e = cc
  by_array own true (Some parts) text array small e = by_items own parts (each named_item parts) text array small refl e

  by_text : (t : Option (List ℕ)) (o : Option (List Part)) → text_in key ≡ t → items_in value ≡ o →
      is_some (space_of (t >>= λ own. where_true (nat_le (length own) 128) own) o) ≡ true → SpaceParts key value
  by_text None o text array e = cc
  by_text (Some own) o text array e = by_array own (nat_le (length own) 128) o text array refl e

-- a namespace holds the item where its name is the one, and its items are those of the array
pub held_here : (ns name : List ℕ) (key value : Part) → is_some {T = Space} (namespace (key, value)) ≡ true →
    held_by ns name (value_or no_space namespace (key, value)) ≡ cond (is_words ns (text_in key)) (find (is_raw name) (raws_in value)) None
held_here ns name key value read =
    let space = space_parts key value read in
    rw (space.given, space.text, space.array) (find-spread ns name space.own (raws_of space.parts) (bytes_eq space.own ns) refl)

-- the parts of the array beside the name are the items of the namespace
pub beside-given : (own : List ℕ) (parts : List Part) → beside own parts ≡ spread (own, raws_of parts)
beside-given own [] = refl
beside-given own (p ∷ parts) = ap (λ rest. (own, p.bytes) ∷ rest) (beside-given own parts)

-- a namespace that can be read, by its name and its array
pub beside_parts : (key value : Part) (own : List ℕ) (parts : List Part) → text_in key ≡ Some own → items_in value ≡ Some parts →
    is_some {T = Space} (namespace (key, value)) ≡ true → beside own parts ≡ spread (value_or no_space namespace (key, value))
beside_parts key value own parts text array read =
    let space = space_parts key value read in
    let own_same : own ≡ space.own = cc in
    let parts_same : parts ≡ space.parts = cc in
    rw (space.given, own_same, parts_same) (beside-given space.own space.parts)
