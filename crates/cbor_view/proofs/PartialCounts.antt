-- The count of an array is the one of its head.
use Rattle.std.proofs.Common.{◌≡◌, ℕ, zero, suc, ◌≤◌, ◌^◌, if◌then◌else◌, List, ◌++◌, map, length, true, nat_lt, Option, Some, None, option_map, Result, Ok, Err, refl, sym, ap, ◌∙◌, subst}
use Rattle.cbor_view.specs.declared.cbor_kind.CborKind.{CborKind}
use Rattle.cbor_view.specs.declared.stop.Stop.{Stop}
use Rattle.cbor_view.specs.declared.heads.Head.{Head}
use Rattle.cbor_view.specs.declared.heads.Head.TheVariants as heads
use Rattle.cbor_view.specs.Tree.{Tree}
use Rattle.cbor_view.specs.Reading.{head_at, item_at}
use Rattle.cbor_view.specs.Parts.{Part, body_of, after_first, parts_at, array_after, items_in}
use Rattle.cbor_view.specs.PartialItem.{PartialItem, whole, in_array, in_map, in_value, in_tag, broken, item_first, whole_run, own_fault, unfinished, unfinished_array, front, partial_item_at, partial_items, declared_count}
use Rattle.cbor_view.specs.PartialHead.{head_and_body, array_count}
use Rattle.cbor_view.proofs.HeadReading.{AreBytes, first-same}
use Rattle.cbor_view.proofs.PartialFaults.{partial-cut, partial-whole}
use Rattle.cbor_view.proofs.PartialParts.{whole-head}
use Rattle.cbor_view.proofs.PartialOpening.{begins, array-is, no-array, array-closed}

pub parts-counted : (n : ℕ) (p : Part) → length (parts_at n p) ≡ n
unfolding parts_at
parts-counted zero p = refl
parts-counted (suc n) p = ap suc (parts-counted n (after_first p))

count-cut : (k n : ℕ) (p : Part) (rest : List ℕ) (s : Stop) → head_at p.bytes ≡ Ok (heads.Array n, rest) → nat_lt n (2 ^ 32) ≡ true → item_at (suc k) p.bytes ≡ Err s → declared_count (partial_item_at (suc k) p) ≡ Some n
count-cut k n p rest s h t i =
    ap declared_count (partial-cut k p s i)
    ∙ (ap (λ (y : Result (Head × List ℕ) CborKind). declared_count (unfinished k (partial_item_at k) p s.kind y)) h
    ∙ ap (λ b. declared_count (if b then unfinished_array (partial_item_at k) p.at n (whole_run (item_first k) n (body_of p rest)) else own_fault p s.kind)) t)

count-whole : (k n : ℕ) (p : Part) (rest : List ℕ) (x : Tree × List ℕ) → suc k ≤ 32 → AreBytes p.bytes → head_at p.bytes ≡ Ok (heads.Array n, rest) → item_at (suc k) p.bytes ≡ Ok x → declared_count (partial_item_at (suc k) p) ≡ Some n
count-whole k n p rest x m are h i =
    let f : Part = front p x.1 in
    let w = whole-head (suc k) p x m are i in
    let same : w.h ≡ heads.Array n = first-same (w.h, w.body ++ x.1) (heads.Array n, rest) (sym w.all ∙ h) in
    let own_head : head_at f.bytes ≡ Ok (heads.Array n, w.body) = w.own_fault ∙ ap (λ (y : Head). Ok (y, w.body)) same in
    ap declared_count (partial-whole (suc k) p x i)
    ∙ (ap (λ (y : Result (Head × List ℕ) CborKind). option_map (λ (ps : List Part). length ps) (array_after f y)) own_head
    ∙ ap (λ (c : ℕ). Some c) (parts-counted n (body_of f w.body)))

count-at : (k n : ℕ) (p : Part) (rest : List ℕ) → suc k ≤ 32 → AreBytes p.bytes → head_at p.bytes ≡ Ok (heads.Array n, rest) → nat_lt n (2 ^ 32) ≡ true → declared_count (partial_item_at (suc k) p) ≡ Some n
count-at k n p rest m are h t = elim (item_at (suc k) p.bytes) as (λ r. item_at (suc k) p.bytes ≡ r → declared_count (partial_item_at (suc k) p) ≡ Some n) [
  | Ok x ↦ λ i. count-whole k n p rest x m are h i
  | Err s ↦ λ i. count-cut k n p rest s h t i
] refl

-- what has no items has no count
no-items : (o : Option (List Part)) → None ≡ option_map (map (λ q. whole q)) o → None ≡ option_map (λ (ps : List Part). length ps) o
no-items None e = refl
no-items (Some ps) e = absurd (cc)

no-count : (g : PartialItem) → None ≡ partial_items g → None ≡ declared_count g
no-count (whole p) e = no-items (items_in p) e
no-count (in_array at count items next) e = absurd (cc)
no-count (in_map at pairs key) e = refl
no-count (in_value at pairs key value) e = refl
no-count (in_tag at n inner) e = refl
no-count (broken fault) e = refl

pub count-open : (d : ℕ) (p : Part) (h : Head) (k : ℕ) (q : Part) → d ≤ 32 → AreBytes p.bytes → Some (h, (k, q)) ≡ head_and_body d p → array_count h ≡ declared_count (partial_item_at d p)
count-open d p h k q m are e = elim (array_count h) as (λ c. array_count h ≡ c → c ≡ declared_count (partial_item_at d p)) [
  | Some n ↦ λ c.
      let b = begins d p h k q e in
      let a = array-is h n (sym c) in
      let hd : head_at p.bytes ≡ Ok (heads.Array n, b.rest) = b.head ∙ ap (λ (y : Head). Ok (y, b.rest)) a.0 in
      let g = count-at k n p b.rest (subst (λ (y : ℕ). y ≤ 32) b.deeper m) are hd a.1 in
      sym g ∙ ap (λ (y : ℕ). declared_count (partial_item_at y p)) (sym b.deeper)
  | None ↦ λ c. no-count (partial_item_at d p) (no-array d p h k q m are e (sym c))
] refl

pub count-closed : (d : ℕ) (p : Part) → d ≤ 32 → AreBytes p.bytes → None ≡ head_and_body d p → None ≡ declared_count (partial_item_at d p)
count-closed d p m are e = no-count (partial_item_at d p) (array-closed d p m are e)
