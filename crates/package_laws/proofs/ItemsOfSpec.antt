-- The items of a copy are those of the elements of its spec.
use Rattle.std.proofs.Common.{◌≡◌, ◌+◌, ◌<◌, ◌≤◌, ◌^◌, ℕ, suc, true, false, List, [], ◌∷◌, ◌++◌, length, map, Ok, refl, ap, ◌∙◌, arith}
use Rattle.std.specs.Prelude.{filter, if◌then◌else◌}
use Rattle.std.specs.List.{All, AllByRecursion}
use Rattle.std.specs.Str.{bytes_eq}
use Rattle.std.proofs.lemmas.List.{length-append}
use Rattle.std.proofs.lemmas.List.Elements.{All-head, All-tail}
use Rattle.cbor_maps.specs.Writing.{key_bytes, map_head}
use Rattle.cbor_maps.specs.WrittenReads.{SpellsItem}
use Rattle.cbor_maps.proofs.WrittenMaps.{piece-encoded}
use Rattle.cbor_view.specs.Shortest.{shortest_form, shortest_head}
use Rattle.cbor_view.specs.Spelling.{Form, Within, One, Two, Four, Eight, head}
use Rattle.issuing.proofs.ElementLemmas.{Checked, checked, name_short, name_text, ns_text}
use Rattle.issuing.specs.IssuedItems.{entries_of, item_of, items_after, count_in_namespace, raw_items}
use Rattle.issuing.specs.declared.issued_item.IssuedItem.{IssuedItem}
use Rattle.issuer_items.proofs.ItemWritten.{item-written}
use Rattle.issuer_items.specs.Item.{Item, item}
use Rattle.issuer_items.specs.WrittenItem.{IsWritable, item_bytes, item_map}
use Rattle.issue_spec.specs.SpecFacts.{AreElements, is_element}
use Rattle.issue_spec.specs.declared.spec_element.SpecElement.{SpecElement}
use Rattle.mso_digests.specs.MadeFrom.{AreDigestsOf}
use Rattle.mso_digests.specs.WrittenFacts.{AllHaveSpelling}
use Rattle.sha2.proofs.Facts256.{length-sha256}
use Rattle.store_write.specs.Storable.{IsName}
use Rattle.package_laws.proofs.SpecLineItems.{HaveItems}
use Rattle.package_laws.proofs.SpecValueItems.{IsItem, item-of}

-- ---- how long an item is

head-by : (form : Form) (major n : ℕ) → length (head form major n) ≤ 9
head-by Within major n = omega arith
head-by One major n = omega arith
head-by Two major n = omega arith
head-by Four major n = omega arith
head-by Eight major n = omega arith

head-short : (major n : ℕ) → length (shortest_head major n) ≤ 9
head-short major n = head-by (shortest_form n) major n

item-length : (it : Item) → length (item_map it) ≤ 200 + length it.random + length it.name + length it.value
unfolding item_map key_bytes map_head
item-length it =
    simp length-append (omega (arith, head-short 5 4, head-short 0 it.digest_id, head-short 2 (length it.random), head-short 3 (length it.name)))

number-few : (ns : List ℕ) (xs : List SpecElement) → count_in_namespace ns xs ≤ length xs
number-few ns [] = omega arith
number-few ns (x ∷ xs) = let rest = number-few ns xs in elim (bytes_eq x.ns ns) as (λ b. length (if b then x ∷ filter (λ (e : SpecElement). bytes_eq e.ns ns) xs else filter (λ (e : SpecElement). bytes_eq e.ns ns) xs) ≤ suc (length xs)) [
  | true ↦ omega (arith, rest)
  | false ↦ omega (arith, rest)
]

-- ---- the item of an element

writable : (before : List SpecElement) (e : SpecElement) (s : List ℕ) → length before ≤ 512 → is_element e ≡ true → SpellsItem 31 e.value → length e.value ≤ 262_144 → length s ≡ 32 → IsWritable (item_of before e s)
writable before e s few is spells short size =
    let c : Checked e = checked e is in
    let named = name_short e.name c.name in
    let number = number-few e.ns before in
    let whole = item-length (item_of before e s) in
    record {
      digest_id = omega (arith, number, few);
      random = omega (arith, size);
      name = omega (arith, named);
      text = name_text e is;
      value = spells;
      short = omega (arith, whole, size, named, short);
    }

pub record IsItemOf (e : SpecElement) (i : IssuedItem) : Type 0 where
  pub it : Item
  pub read : item i.raw ≡ Ok it
  pub spells : SpellsItem 25 i.raw
  pub ns : i.ns ≡ e.ns
  pub number : i.number ≡ it.digest_id
  pub name : it.name ≡ e.name
  pub value : it.value ≡ e.value
  pub small : i.number < 2 ^ 64
  pub ns_is : IsName i.ns
  pub name_is : length e.name ≤ 128
  pub value_is : length e.value ≤ 262_144

-- one for each
abbrev pub AreItemsOf : List SpecElement → List IssuedItem → Type 0
AreItemsOf [] [] = Unit {0}
AreItemsOf (e ∷ es) (i ∷ items) = IsItemOf e i × AreItemsOf es items
AreItemsOf es items = ⊥

pub items-are : (before es : List SpecElement) (salts : List (List ℕ)) → length before + length es ≤ 512 → AreElements es → HaveItems es
    → All (λ (e : SpecElement). length e.value ≤ 262_144) es → AllByRecursion (λ (s : List ℕ). length s ≡ 32) salts → length salts ≡ length es
    → AreItemsOf es (items_after before es salts)
items-are before [] [] few each items short sizes same = tt
items-are before [] (s ∷ salts) few each items short sizes same = absurd (omega (arith, same))
items-are before (e ∷ es) [] few each items short sizes same = absurd (omega (arith, same))
items-are before (e ∷ es) (s ∷ salts) few each items short sizes same =
    let is = All-head (λ (x : SpecElement). is_element x ≡ true) e es each in
    let own = All-head (λ (x : SpecElement). IsItem x.value) e es items in
    let fits = All-head (λ (x : SpecElement). length x.value ≤ 262_144) e es short in
    let c : Checked e = checked e is in
    let less : length before ≤ 512 = omega (arith, few) in
    let more : length (before ++ e ∷ []) + length es ≤ 512 = omega (arith, few, length-append before (e ∷ [])) in
    let it = item_of before e s in
    let can = writable before e s less is (own fits) fits sizes.0 in (
      record {
        it = it;
        read = item-written it can;
        spells = item-of 1 25 (item_bytes it) (omega arith) (omega arith) (piece-encoded (item_map it) can.short);
        ns = refl;
        number = refl;
        name = refl;
        value = refl;
        small = can.digest_id;
        ns_is = record { short = name_short e.ns c.ns; utf8 = ns_text e is };
        name_is = name_short e.name c.name;
        value_is = fits;
      },
      items-are (before ++ e ∷ []) es salts more (All-tail (λ (x : SpecElement). is_element x ≡ true) e es each) (All-tail (λ (x : SpecElement). IsItem x.value) e es items)
          (All-tail (λ (x : SpecElement). length x.value ≤ 262_144) e es short) sizes.1 (omega (arith, same)),
    )

-- ---- what follows of all

abbrev pub ns_of : SpecElement → List ℕ
ns_of e = e.ns

abbrev pub pair_ns : List ℕ × List ℕ → List ℕ
pair_ns pair = pair.0

pub raw_items-length : (es : List SpecElement) (items : List IssuedItem) → AreItemsOf es items → length (raw_items items) ≡ length es
raw_items-length [] [] all = refl
raw_items-length [] (i ∷ items) all = absurd all
raw_items-length (e ∷ es) [] all = absurd all
raw_items-length (e ∷ es) (i ∷ items) all = ap suc (raw_items-length es items all.1)

pub entries-length : (es : List SpecElement) (items : List IssuedItem) → AreItemsOf es items → length (entries_of items) ≡ length es
entries-length [] [] all = refl
entries-length [] (i ∷ items) all = absurd all
entries-length (e ∷ es) [] all = absurd all
entries-length (e ∷ es) (i ∷ items) all = ap suc (entries-length es items all.1)

pub raw_items-namespaces : (es : List SpecElement) (items : List IssuedItem) → AreItemsOf es items → map pair_ns (raw_items items) ≡ map ns_of es
raw_items-namespaces [] [] all = refl
raw_items-namespaces [] (i ∷ items) all = absurd all
raw_items-namespaces (e ∷ es) [] all = absurd all
raw_items-namespaces (e ∷ es) (i ∷ items) all =
    let own = all.0 in
    ap (λ (x : List ℕ). x ∷ map pair_ns (raw_items items)) own.ns ∙ ap (λ (x : List (List ℕ)). e.ns ∷ x) (raw_items-namespaces es items all.1)

pub raw_items-names : (es : List SpecElement) (items : List IssuedItem) → AreItemsOf es items → AllByRecursion IsName (map pair_ns (raw_items items))
raw_items-names [] [] all = tt
raw_items-names [] (i ∷ items) all = absurd all
raw_items-names (e ∷ es) [] all = absurd all
raw_items-names (e ∷ es) (i ∷ items) all = let own = all.0 in (own.ns_is, raw_items-names es items all.1)

pub raw_items-nested : (es : List SpecElement) (items : List IssuedItem) → AreItemsOf es items → AllByRecursion (λ (pair : List ℕ × List ℕ). SpellsItem 25 pair.1) (raw_items items)
raw_items-nested [] [] all = tt
raw_items-nested [] (i ∷ items) all = absurd all
raw_items-nested (e ∷ es) [] all = absurd all
raw_items-nested (e ∷ es) (i ∷ items) all = let own = all.0 in (own.spells, raw_items-nested es items all.1)

pub raw_items-digests : (es : List SpecElement) (items : List IssuedItem) → AreItemsOf es items → AreDigestsOf (entries_of items) (raw_items items)
raw_items-digests [] [] all = tt
raw_items-digests [] (i ∷ items) all = absurd all
raw_items-digests (e ∷ es) [] all = absurd all
raw_items-digests (e ∷ es) (i ∷ items) all =
    let own = all.0 in
    (record { it = own.it; is_item = own.read; namespace = refl; number = own.number; digest = refl }, raw_items-digests es items all.1)

pub entries-spelled : (es : List SpecElement) (items : List IssuedItem) → AreItemsOf es items → AllHaveSpelling (entries_of items)
entries-spelled [] [] all = tt
entries-spelled [] (i ∷ items) all = absurd all
entries-spelled (e ∷ es) [] all = absurd all
entries-spelled (e ∷ es) (i ∷ items) all =
    let own = all.0 in
    let ns = own.ns_is in
    let short = ns.short in
    (record { number = own.small; digest = length-sha256 i.raw; short = omega arith; text = ns.utf8 }, entries-spelled es items all.1)
