-- Items by their namespaces: how many namespaces there are, how many items, and that no two of one have one name.
use Rattle.std.proofs.Common.{◌≡◌, ◌+◌, ◌≤◌, ℕ, suc, Bool, true, false, ◌&&◌, ◌||◌, not, nat_le, cond, List, [], ◌∷◌, ◌++◌, length, map, Some, refl, sym, ap, subst, ◌∙◌, append-nil, arith}
use Rattle.std.specs.Prelude.{filter}
use Rattle.std.specs.List.{flat_map, list_any}
use Rattle.std.specs.Str.{bytes_eq}
use Rattle.std.proofs.lemmas.Bool.Decides.{nat_tests}
use Rattle.std.proofs.lemmas.List.{length-append}
use Rattle.std.proofs.lemmas.Slice.Eq.{bytes_eq-Decides}
use Rattle.doc_response.proofs.FirstsLemmas.{more, more-added, more-start}
use Rattle.doc_response.proofs.Grouping.{map-length}
use Rattle.doc_response.specs.Answered.{distinct_texts, has_text, of_namespace}
use Rattle.doc_response.specs.Namespaces.{added}
use Rattle.doc_response.specs.WrittenReads.{regrouped, spread_group}
use Rattle.doc_store.specs.Fields as fields
use Rattle.doc_store.specs.Item.{if_item, item}
use Rattle.issuing.specs.IssuedItems.{raw_items, placed_of}
use Rattle.issuing.specs.declared.issued_item.IssuedItem.{IssuedItem}
use Rattle.issue_spec.specs.SpecFacts.{are_distinct}
use Rattle.issue_spec.specs.SpecNamespaces.{namespaces_after, namespaces_of, with_namespace}
use Rattle.issue_spec.specs.SpecSoFar.{has_element, is_same_element}
use Rattle.issue_spec.specs.declared.spec_element.SpecElement.{SpecElement}
use Rattle.mdoc_outside.specs.OptionSteps.{each as each_of}
use Rattle.store_write.proofs.WrittenRead.{firsts-distinct}
use Rattle.store_write.specs.Storable.{named}
use Rattle.package_laws.proofs.ItemsOfSpec.{AreItemsOf, IsItemOf, ns_of}

abbrev Pair : Type 0
Pair = List ℕ × List ℕ

-- ---- texts

same-text : (a b : List ℕ) → bytes_eq a b ≡ true → a ≡ b
same-text a b e = (bytes_eq-Decides a b).0 e

own-text : (a b : List ℕ) → a ≡ b → bytes_eq a b ≡ true
own-text a b e = (bytes_eq-Decides a b).1 e

mapped : (a b : List ℕ) → bytes_eq a b ≡ bytes_eq b a
mapped a b = go (bytes_eq a b) (bytes_eq b a) refl refl where
  go : (p q : Bool) → bytes_eq a b ≡ p → bytes_eq b a ≡ q → p ≡ q
  go true true one other = refl
  go true false one other = sym (own-text b a (sym (same-text a b one))) ∙ other
  go false true one other = sym one ∙ own-text a b (sym (same-text b a other))
  go false false one other = refl

neither : (a b : Bool) → (a || b) ≡ false → (a ≡ false) × (b ≡ false)
neither true b h = absurd cc
neither false b h = (refl, h)

-- ---- the namespaces of elements are the first ones of them all

any-turned : (ns : List ℕ) (seen : List (List ℕ)) → list_any (bytes_eq ns) seen ≡ has_text ns seen
any-turned ns [] = refl
any-turned ns (other ∷ seen) = rw (mapped ns other, any-turned ns seen) refl

with-added : (seen : List (List ℕ)) (ns : List ℕ) → with_namespace seen ns ≡ added ns seen
with-added seen ns = ap (λ (b : Bool). cond b seen (seen ++ ns ∷ [])) (any-turned ns seen)

namespaces-more : (seen : List (List ℕ)) (es : List SpecElement) → namespaces_after seen es ≡ more seen (map ns_of es)
namespaces-more seen [] = sym (append-nil seen)
namespaces-more seen (e ∷ es) =
    namespaces-more (with_namespace seen e.ns) es
    ∙ ap (λ (x : List (List ℕ)). more x (map ns_of es)) (with-added seen e.ns)
    ∙ more-added seen (map ns_of es) e.ns

pub namespaces-are-firsts : (es : List SpecElement) → namespaces_of es ≡ distinct_texts (map ns_of es)
namespaces-are-firsts es = namespaces-more [] es ∙ more-start (map ns_of es)

-- ---- as many items as there were

abbrev counted : List Pair → List (List ℕ) → ℕ
counted pairs [] = 0
counted pairs (t ∷ ts) = length (of_namespace pairs t).1 + counted pairs ts

spread-counted : (pairs : List Pair) (ts : List (List ℕ)) → length (flat_map spread_group (map (of_namespace pairs) ts)) ≡ counted pairs ts
spread-counted pairs [] = refl
spread-counted pairs (t ∷ ts) =
    let group = of_namespace pairs t in
    let both = length-append (spread_group group) (flat_map spread_group (map (of_namespace pairs) ts)) in
    let own : length (spread_group group) ≡ length group.1 = map-length {B = Pair} (λ (raw : List ℕ). (group.0, raw)) group.1 in
    omega (arith, both, own, spread-counted pairs ts)

none-counted : (ts : List (List ℕ)) → counted [] ts ≡ 0
none-counted [] = refl
none-counted (t ∷ ts) = omega (arith, none-counted ts)

passed-over : (p : Pair) (pairs : List Pair) (ts : List (List ℕ)) → list_any (bytes_eq p.0) ts ≡ false → counted (p ∷ pairs) ts ≡ counted pairs ts
passed-over p pairs [] e = refl
passed-over p pairs (t ∷ ts) e =
    let both = neither (bytes_eq p.0 t) (list_any (bytes_eq p.0) ts) e in
    rw (both.0, passed-over p pairs ts both.1) refl

first-distinct : (text : List ℕ) (texts : List (List ℕ)) → fields.are_distinct (text ∷ texts) ≡ true → (list_any (bytes_eq text) texts ≡ false) × (fields.are_distinct texts ≡ true)
first-distinct text texts e = go (list_any (bytes_eq text) texts) refl e where
  go : (b : Bool) → list_any (bytes_eq text) texts ≡ b → (not b && fields.are_distinct texts) ≡ true → (list_any (bytes_eq text) texts ≡ false) × (fields.are_distinct texts ≡ true)
  go true is e = absurd cc
  go false is e = (is, e)

one-more : (p : Pair) (pairs : List Pair) (ts : List (List ℕ)) → fields.are_distinct ts ≡ true → counted (p ∷ pairs) ts ≤ suc (counted pairs ts)
one-more p pairs [] e = omega arith
one-more p pairs (t ∷ ts) e =
    let both = first-distinct t ts e in
    let rest = one-more p pairs ts both.1 in
    go (bytes_eq p.0 t) refl rest both.0
  where
    kept : List Pair
    kept = filter (λ (pair : Pair). bytes_eq pair.0 t) pairs

    go : (b : Bool) → bytes_eq p.0 t ≡ b → counted (p ∷ pairs) ts ≤ suc (counted pairs ts) → list_any (bytes_eq t) ts ≡ false
        → length (map (λ (pair : Pair). pair.1) (cond b (p ∷ kept) kept)) + counted (p ∷ pairs) ts ≤ suc (length (map (λ (pair : Pair). pair.1) kept) + counted pairs ts)
    go true is rest lacks =
        let own = passed-over p pairs ts (subst (λ (x : List ℕ). list_any (bytes_eq x) ts ≡ false) (sym (same-text p.0 t is)) lacks) in
        omega (arith, own)
    go false is rest lacks = omega (arith, rest)

all-counted : (pairs : List Pair) (ts : List (List ℕ)) → fields.are_distinct ts ≡ true → counted pairs ts ≤ length pairs
all-counted [] ts e = omega (arith, none-counted ts)
all-counted (p ∷ pairs) ts e = omega (arith, one-more p pairs ts e, all-counted pairs ts e)

pub regrouped-fewer : (pairs : List Pair) → length (regrouped pairs) ≤ length pairs
regrouped-fewer pairs =
    let names = map (λ (pair : Pair). pair.0) pairs in
    omega (arith, spread-counted pairs (distinct_texts names), all-counted pairs (distinct_texts names) (firsts-distinct names))

-- ---- the names of a namespace's items

abbrev name_of : SpecElement → List ℕ
name_of e = e.name

abbrev is_in : List ℕ → SpecElement → Bool
is_in ns e = bytes_eq e.ns ns

lacks-name : (ns : List ℕ) (e : SpecElement) (es : List SpecElement) → bytes_eq e.ns ns ≡ true → has_element es e ≡ false → list_any (bytes_eq e.name) (map name_of (filter (is_in ns) es)) ≡ false
lacks-name ns e [] is h = refl
lacks-name ns e (x ∷ es) is h =
    let both = neither (is_same_element e x) (has_element es e) h in
    go (bytes_eq x.ns ns) refl both.0 (lacks-name ns e es is both.1)
  where
    go : (b : Bool) → bytes_eq x.ns ns ≡ b → is_same_element e x ≡ false → list_any (bytes_eq e.name) (map name_of (filter (is_in ns) es)) ≡ false
        → list_any (bytes_eq e.name) (map name_of (cond b (x ∷ filter (is_in ns) es) (filter (is_in ns) es))) ≡ false
    go false at other rest = rest
    go true at other rest =
        let same : bytes_eq e.ns x.ns ≡ true = own-text e.ns x.ns (same-text e.ns ns is ∙ sym (same-text x.ns ns at)) in
        let differs : bytes_eq e.name x.name ≡ false = rw same at other in
        rw (differs, rest) refl

apart : (b c : Bool) → (not b && c) ≡ true → (b ≡ false) × (c ≡ true)
apart true c h = absurd cc
apart false c h = (refl, h)

pub distinct-names : (ns : List ℕ) (es : List SpecElement) → are_distinct es ≡ true → fields.are_distinct (map name_of (filter (is_in ns) es)) ≡ true
distinct-names ns [] h = refl
distinct-names ns (e ∷ es) h =
    let both = apart (has_element es e) (are_distinct es) h in
    go (bytes_eq e.ns ns) refl both.0 (distinct-names ns es both.1)
  where
    go : (b : Bool) → bytes_eq e.ns ns ≡ b → has_element es e ≡ false → fields.are_distinct (map name_of (filter (is_in ns) es)) ≡ true
        → fields.are_distinct (map name_of (cond b (e ∷ filter (is_in ns) es) (filter (is_in ns) es))) ≡ true
    go false at none rest = rest
    go true at none rest = rw (lacks-name ns e es at none, rest) refl

-- items that have names, which are these
pub record NamedIn (raws names : List (List ℕ)) : Type 0 where
  pub items : List (List ℕ × List ℕ)
  pub are : each_of named raws ≡ Some items
  pub names_are : map (λ (i : List ℕ × List ℕ). i.0) items ≡ names

at-most : (n most : ℕ) → n ≤ most → nat_le n most ≡ true
at-most n most few = grind (arith, nat_tests)

one-read : (e : SpecElement) (i : IssuedItem) (own : IsItemOf e i) → item i.raw ≡ Some own.it
unfolding item
one-read e i own = ap if_item own.read

one-named : (e : SpecElement) (i : IssuedItem) → IsItemOf e i → named i.raw ≡ Some (e.name, i.raw)
one-named e i own =
    rw (one-read e i own) (rw (own.name, own.value) (rw (at-most (length e.name) 128 own.name_is, at-most (length e.value) 262144 own.value_is) refl))

name-more : (raw name : List ℕ) (raws names : List (List ℕ)) → named raw ≡ Some (name, raw) → NamedIn raws names → NamedIn (raw ∷ raws) (name ∷ names)
name-more raw name raws names one rest = record {
  items = (name, raw) ∷ rest.items;
  are = rw one (rw rest.are refl);
  names_are = ap (λ (x : List (List ℕ)). name ∷ x) rest.names_are;
}

pub named-in : (ns : List ℕ) (es : List SpecElement) (items : List IssuedItem) → AreItemsOf es items → NamedIn (of_namespace (raw_items items) ns).1 (map name_of (filter (is_in ns) es))
named-in ns [] [] all = record { items = []; are = refl; names_are = refl }
named-in ns [] (i ∷ items) all = absurd all
named-in ns (e ∷ es) [] all = absurd all
named-in ns (e ∷ es) (i ∷ items) all =
    let own = all.0 in
    subst (λ (x : List ℕ). NamedIn (map (λ (pair : Pair). pair.1) (cond (bytes_eq x ns) (placed_of i ∷ kept) kept)) (map name_of (filter (is_in ns) (e ∷ es)))) (sym own.ns)
    (go (bytes_eq e.ns ns) (named-in ns es items all.1))
  where
    kept : List Pair
    kept = filter (λ (pair : Pair). bytes_eq pair.0 ns) (raw_items items)

    go : (b : Bool) → NamedIn (map (λ (pair : Pair). pair.1) kept) (map name_of (filter (is_in ns) es))
        → NamedIn (map (λ (pair : Pair). pair.1) (cond b (placed_of i ∷ kept) kept)) (map name_of (cond b (e ∷ filter (is_in ns) es) (filter (is_in ns) es)))
    go true rest = name-more i.raw e.name (map (λ (pair : Pair). pair.1) kept) (map name_of (filter (is_in ns) es)) (one-named e i all.0) rest
    go false rest = rest
