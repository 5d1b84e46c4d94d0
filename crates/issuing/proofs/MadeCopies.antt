-- The object of a copy is made from the items of the copy.
use Rattle.std.proofs.Common.{◌≡◌, ◌+◌, ◌≤◌, refl, arith, true, false, ℕ, suc, List, [], ◌∷◌, ◌++◌, length}
use Rattle.std.specs.Prelude.{filter, if◌then◌else◌}
use Rattle.std.specs.List.{All}
use Rattle.std.specs.Str.{bytes_eq}
use Rattle.std.proofs.lemmas.List.{length-append}
use Rattle.std.proofs.lemmas.List.Elements.{All-head, All-tail}
use Rattle.cbor_view.proofs.WholeReading.{reads-spells}
use Rattle.cbor_view.specs.Spelling.{AreBytes}
use Rattle.issuer_items.proofs.ItemWritten.{item-written}
use Rattle.issuer_items.specs.WrittenItem.{IsWritable}
use Rattle.issue_spec.specs.SpecFacts.{AreElements, is_element}
use Rattle.issue_spec.specs.declared.spec_element.SpecElement.{SpecElement}
use Rattle.mso_digests.proofs.MadeFromItems.{lists-items, covers-items}
use Rattle.mso_digests.specs.MadeFrom.{AreDigestsOf}
use Rattle.issuing.proofs.ElementLemmas.{Checked, checked, name_text, name_short, Read, value_read}
use Rattle.issuing.proofs.ItemLengths.{map_length}
use Rattle.issuing.specs.IssuedItems.{entries_of, item_of, items_after, items_of, count_in_namespace, object_draft, raw_items}
use Rattle.issuing.specs.MadeCopies.{IsMadeFromItsItems}

number_few : (ns : List ℕ) (xs : List SpecElement) → count_in_namespace ns xs ≤ length xs
number_few ns [] = omega arith
number_few ns (x ∷ xs) = let rest = number_few ns xs in elim (bytes_eq x.ns ns) as (λ b. length (if b then x ∷ filter (λ (e : SpecElement). bytes_eq e.ns ns) xs else filter (λ (e : SpecElement). bytes_eq e.ns ns) xs) ≤ suc (length xs)) [
  | true ↦ omega (arith, rest)
  | false ↦ omega (arith, rest)
]

writable : (before : List SpecElement) (e : SpecElement) (s : List ℕ) → length before ≤ 512 → is_element e ≡ true → AreBytes e.value → length e.value ≤ 262_144 → length s ≡ 32 → IsWritable (item_of before e s)
writable before e s few is bytes short size =
    let c : Checked e = checked e is in
    let r : Read e.value = value_read e is in
    let named = name_short e.name c.name in
    let number = number_few e.ns before in
    let whole = map_length (item_of before e s) in
    record {
      digest_id = omega (arith, number, few);
      random = omega (arith, size);
      name = omega (arith, named);
      text = name_text e is;
      value = record { item = r.item; spells = reads-spells e.value r.item (record { each = bytes }) r.is_read; nesting = r.nesting };
      short = omega (arith, whole, size, named, short);
    }

are_after : (before es : List SpecElement) (salts : List (List ℕ)) → length before + length es ≤ 512 → AreElements es → All (λ (e : SpecElement). AreBytes e.value) es
    → All (λ (e : SpecElement). length e.value ≤ 262_144) es → All (λ (s : List ℕ). length s ≡ 32) salts → AreDigestsOf (entries_of (items_after before es salts)) (raw_items (items_after before es salts))
are_after before [] salts few each bytes short sizes = tt
are_after before (e ∷ es) [] few each bytes short sizes = tt
are_after before (e ∷ es) (s ∷ salts) few each bytes short sizes =
    let is = All-head (λ (x : SpecElement). is_element x ≡ true) e es each in
    let own = All-head (λ (x : SpecElement). AreBytes x.value) e es bytes in
    let fits = All-head (λ (x : SpecElement). length x.value ≤ 262_144) e es short in
    let size = All-head (λ (x : List ℕ). length x ≡ 32) s salts sizes in
    let less : length before ≤ 512 = omega (arith, few) in
    let more : length (before ++ e ∷ []) + length es ≤ 512 = omega (arith, few, length-append before (e ∷ [])) in (
      record { it = item_of before e s; is_item = item-written (item_of before e s) (writable before e s less is own fits size); namespace = refl; number = refl; digest = refl },
      are_after (before ++ e ∷ []) es salts more (All-tail (λ (x : SpecElement). is_element x ≡ true) e es each) (All-tail (λ (x : SpecElement). AreBytes x.value) e es bytes)
          (All-tail (λ (x : SpecElement). length x.value ≤ 262_144) e es short) (All-tail (λ (x : List ℕ). length x ≡ 32) s salts sizes),
    )

pub made : IsMadeFromItsItems
made fields key salts is bytes sizes =
    let draft = object_draft fields key salts in
    let few : length {A = SpecElement} [] + length fields.elements ≤ 512 = let most = is.elements.few in omega (arith, most) in
    let are = are_after [] fields.elements salts few is.elements.each bytes is.elements.short sizes in
    record { lists = lists-items draft.digests (raw_items (items_of fields.elements salts)) are; covers = covers-items draft.digests (raw_items (items_of fields.elements salts)) are }
