-- The items of a copy are written namespace by namespace.
use Rattle.std.proofs.Common.{◌≡◌, ◌+◌, ◌<◌, ◌≤◌, ℕ, suc, Bool, true, false, cond, List, [], ◌∷◌, ◌++◌, length, map, take, drop, get_or, Result, Ok, Err, refl, sym, ap, ◌∙◌, append_assoc, add-one, drop-cons, arith}
use Rattle.std.specs.Prelude.{filter, flat_map, OnOk}
use Rattle.std.specs.Str.{bytes_eq}
use Rattle.std.proofs.lemmas.List.{length-map}
use Rattle.std.proofs.lemmas.Slice.Eq.{bytes_eq-Decides}
use Rattle.cbor_view.specs.Shortest.{shortest_head, text_bytes}
use Rattle.doc_response.proofs.WriterLemmas.{counted, items_written}
use Rattle.doc_response.specs.Answered.{distinct_texts, items_map, namespace_entry, of_namespace}
use Rattle.doc_response.specs.Namespaces.{count_of_text, entry_bytes}
use Rattle.issuing.proofs.ItemLemmas.{number_both}
use Rattle.issuing.specs.IssuedItems.{issued_item, items_after, items_of, count_in_namespace, placed_of, raw_items}
use Rattle.issuer_items.specs.WrittenItem.{item_bytes}
use Rattle.issue_spec.specs.declared.spec_element.SpecElement.{SpecElement}
use Rattle.key_device.proofs.AllPlanStepLemmas.{front_of}
use Rattle.issuing.specs.Groups.{element_bytes, namespace_bytes, next_number, ns_of}

abbrev Pair : Type 0
Pair = List ℕ × List ℕ

-- ---- the element at a place

left_at : {A : Type 0} (xs : List A) (p : ℕ) (x d : A) → p < length xs → x ≡ get_or xs p d → drop p xs ≡ x ∷ drop (p + 1) xs
left_at xs p x d within is = rw add-one (drop-cons xs p d within ∙ ap (λ y. y ∷ drop (suc p) xs) (sym is))

-- ---- the namespaces of items are those of their elements

names_after : (before es : List SpecElement) (salts : List (List ℕ)) → length salts ≡ length es → map (λ (pair : Pair). pair.0) (raw_items (items_after before es salts)) ≡ map ns_of es
names_after before [] salts same = refl
names_after before (e ∷ es) [] same = absurd (omega (arith, same))
names_after before (e ∷ es) (s ∷ salts) same =
    ap (λ (rest : List (List ℕ)). e.ns ∷ rest) (names_after (before ++ e ∷ []) es salts (omega (arith, same)))

pub names_of_items : (elements : List SpecElement) (salts : List (List ℕ)) → length salts ≡ length elements → map (λ (pair : Pair). pair.0) (raw_items (items_of elements salts)) ≡ map ns_of elements
names_of_items elements salts same = names_after [] elements salts same

number_counted : (ns : List ℕ) (es : List SpecElement) → count_in_namespace ns es ≡ count_of_text ns (map ns_of es)
number_counted ns [] = refl
number_counted ns (e ∷ es) = either (bytes_eq e.ns ns) (number_counted ns es) where
  either : (b : Bool) → count_in_namespace ns es ≡ count_of_text ns (map ns_of es)
      → length (cond b (e ∷ filter (λ (x : SpecElement). bytes_eq x.ns ns) es) (filter (λ (x : SpecElement). bytes_eq x.ns ns) es))
      ≡ length (cond b (e.ns ∷ filter (λ (other : List ℕ). bytes_eq other ns) (map ns_of es)) (filter (λ (other : List ℕ). bytes_eq other ns) (map ns_of es)))
  either true rest = ap suc rest
  either false rest = rest

-- there are as many items of a namespace as elements
pub items_counted : (ns : List ℕ) (elements : List SpecElement) (salts : List (List ℕ)) → length salts ≡ length elements → count_in_namespace ns elements ≡ length (of_namespace (raw_items (items_of elements salts)) ns).1
items_counted ns elements salts same =
    number_counted ns elements
    ∙ ap (λ (names : List (List ℕ)). count_of_text ns names) (sym (names_of_items elements salts same))
    ∙ counted (raw_items (items_of elements salts)) ns

-- a namespace: its text, and the array of its items
pub namespace_written : {E : Type 0} (r : Result (Unit {0}) E) (ns name : List ℕ) (elements : List SpecElement) (salts : List (List ℕ)) (old with_text with_head now : List ℕ) (count : ℕ)
    → length salts ≡ length elements → name ≡ ns → with_text ≡ old ++ text_bytes ns → with_head ≡ with_text ++ shortest_head 4 count → count ≡ count_in_namespace name elements
    → OnOk r (now ≡ with_head ++ namespace_bytes name (items_of elements salts)) → OnOk r (now ≡ old ++ entry_bytes (namespace_entry (of_namespace (raw_items (items_of elements salts)) ns)))
namespace_written (Err e) ns name elements salts old with_text with_head now count same name_is text_is head_is count_is now_is = tt
namespace_written (Ok u) ns name elements salts old with_text with_head now count same name_is text_is head_is count_is now_is =
    items_written old ns with_text with_head now count (of_namespace (raw_items (items_of elements salts)) ns).1 text_is head_is
    (now_is ∙ ap (λ (n : List ℕ). with_head ++ namespace_bytes n (items_of elements salts)) name_is)
    (count_is ∙ ap (λ (n : List ℕ). count_in_namespace n elements) name_is ∙ items_counted ns elements salts same)

-- ---- one element more

pub next_is : (ns : List ℕ) (before : List SpecElement) (e : SpecElement) → next_number ns (count_in_namespace ns before) e ≡ count_in_namespace ns (before ++ e ∷ [])
next_is ns before e = either (bytes_eq e.ns ns) (number_both ns before (e ∷ [])) where
  either : (b : Bool) → count_in_namespace ns (before ++ e ∷ []) ≡ count_in_namespace ns before + length (cond b (e ∷ []) []) → cond b (count_in_namespace ns before + 1) (count_in_namespace ns before) ≡ count_in_namespace ns (before ++ e ∷ [])
  either true both = let one : count_in_namespace ns (before ++ e ∷ []) ≡ count_in_namespace ns before + 1 = both in omega (arith, one)
  either false both = let none : count_in_namespace ns (before ++ e ∷ []) ≡ count_in_namespace ns before + 0 = both in omega (arith, none)

one_more : (ns : List ℕ) (before : List SpecElement) (e : SpecElement) (es : List SpecElement) (s : List ℕ) (salts : List (List ℕ))
    → namespace_bytes ns (items_after before (e ∷ es) (s ∷ salts)) ≡ element_bytes ns (count_in_namespace ns before) e s ++ namespace_bytes ns (items_after (before ++ e ∷ []) es salts)
one_more ns before e es s salts = either (bytes_eq e.ns ns) refl where
  kept : List Pair
  kept = filter (λ (pair : Pair). bytes_eq pair.0 ns) (raw_items (items_after (before ++ e ∷ []) es salts))

  own : ℕ → List ℕ
  own n = item_bytes (record { digest_id = n; random = s; name = e.name; value = e.value })

  either : (b : Bool) → bytes_eq e.ns ns ≡ b
      → flat_map (λ (part : List ℕ). part) (map (λ (pair : Pair). pair.1) (cond b (placed_of (issued_item before e s) ∷ kept) kept))
      ≡ cond b (own (count_in_namespace ns before)) [] ++ flat_map (λ (part : List ℕ). part) (map (λ (pair : Pair). pair.1) kept)
  either false is = refl
  either true is =
      let same : e.ns ≡ ns = (bytes_eq-Decides e.ns ns).0 is in
      ap (λ (name : List ℕ). own (count_in_namespace name before) ++ flat_map (λ (part : List ℕ). part) (map (λ (pair : Pair). pair.1) kept)) same

-- what was written, and what is left to be written, are all
pub more_written : (ns : List ℕ) (elements : List SpecElement) (salts : List (List ℕ)) (p number : ℕ) (e : SpecElement) (s d build built all : List ℕ)
    → p < length elements → e ≡ get_or elements p e → p < length salts → s ≡ get_or salts p d
    → number ≡ count_in_namespace ns (take p elements) → built ≡ build ++ element_bytes ns number e s
    → build ++ namespace_bytes ns (items_after (take p elements) (drop p elements) (drop p salts)) ≡ all
    → built ++ namespace_bytes ns (items_after (take (p + 1) elements) (drop (p + 1) elements) (drop (p + 1) salts)) ≡ all
more_written ns elements salts p number e s d build built all within is within_salts salt_is number_is built_is so_far =
    let rest = namespace_bytes ns (items_after (take p elements ++ e ∷ []) (drop (p + 1) elements) (drop (p + 1) salts)) in
    let whole : namespace_bytes ns (items_after (take p elements) (drop p elements) (drop p salts)) ≡ element_bytes ns number e s ++ rest
    = ap (λ (es : List SpecElement). namespace_bytes ns (items_after (take p elements) es (drop p salts))) (left_at elements p e e within is)
    ∙ ap (λ (ss : List (List ℕ)). namespace_bytes ns (items_after (take p elements) (e ∷ drop (p + 1) elements) ss)) (left_at salts p s d within_salts salt_is)
    ∙ one_more ns (take p elements) e (drop (p + 1) elements) s (drop (p + 1) salts)
    ∙ ap (λ (n : ℕ). element_bytes ns n e s ++ rest) (sym number_is)
    in
    ap (λ (front : List SpecElement). built ++ namespace_bytes ns (items_after front (drop (p + 1) elements) (drop (p + 1) salts))) (front_of elements p e within is)
    ∙ ap (λ (b : List ℕ). b ++ rest) built_is
    ∙ append_assoc build (element_bytes ns number e s) rest
    ∙ ap (λ (r : List ℕ). build ++ r) (sym whole)
    ∙ so_far

-- its digest identifier is counted
pub more_counted : (ns : List ℕ) (elements : List SpecElement) (p number next : ℕ) (e : SpecElement) → p < length elements → e ≡ get_or elements p e
    → number ≡ count_in_namespace ns (take p elements) → next ≡ next_number ns number e → next ≡ count_in_namespace ns (take (p + 1) elements)
more_counted ns elements p number next e within is number_is next_is_it =
    next_is_it
    ∙ ap (λ (n : ℕ). next_number ns n e) number_is
    ∙ next_is ns (take p elements) e
    ∙ ap (λ (front : List SpecElement). count_in_namespace ns front) (sym (front_of elements p e within is))

pub few_more : (ns : List ℕ) (p number next : ℕ) (e : SpecElement) → number ≤ p → next ≡ next_number ns number e → next ≤ p + 1
few_more ns p number next e few next_is_it = either (bytes_eq e.ns ns) next_is_it where
  either : (b : Bool) → next ≡ cond b (number + 1) number → next ≤ p + 1
  either true is = omega (arith, few, is)
  either false is = omega (arith, few, is)

-- the map of all
pub map_written : (elements : List SpecElement) (salts names : List (List ℕ)) (old with_head now : List ℕ) (count : ℕ) → length salts ≡ length elements
    → names ≡ distinct_texts (map ns_of elements) → count ≡ length names → with_head ≡ old ++ shortest_head 5 count
    → now ≡ with_head ++ flat_map entry_bytes (map namespace_entry (map (of_namespace (raw_items (items_of elements salts))) names))
    → now ≡ old ++ items_map (raw_items (items_of elements salts))
unfolding items_map
map_written elements salts names old with_head now count same names_are count_is head_is now_is =
    let items = raw_items (items_of elements salts) in
    let same_names : names ≡ distinct_texts (map (λ (pair : Pair). pair.0) items) = names_are ∙ ap distinct_texts (sym (names_of_items elements salts same)) in
    let as_many : count ≡ length (map namespace_entry (map (of_namespace items) names))
    = count_is ∙ sym (length-map (map (of_namespace items) names) namespace_entry ∙ length-map names (of_namespace items)) in
    now_is
    ∙ ap (λ (h : List ℕ). h ++ flat_map entry_bytes (map namespace_entry (map (of_namespace items) names))) (head_is ∙ ap (λ (n : ℕ). old ++ shortest_head 5 n) as_many)
    ∙ append_assoc old (shortest_head 5 (length (map namespace_entry (map (of_namespace items) names)))) (flat_map entry_bytes (map namespace_entry (map (of_namespace items) names)))
    ∙ ap (λ (each : List (List ℕ)). old ++ (shortest_head 5 (length (map namespace_entry (map (of_namespace items) each))) ++ flat_map entry_bytes (map namespace_entry (map (of_namespace items) each)))) same_names
