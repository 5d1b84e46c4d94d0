-- The parts of an array, a map and a tag as far as they are spelled; an item of another kind has none.
use Rattle.std.proofs.Common.{◌≡◌, ℕ, zero, suc, ◌+◌, ◌≤◌, ◌^◌, if◌then◌else◌, List, [], ◌∷◌, ◌++◌, map, length, true, false, nat_lt, Option, Some, None, option_map, Result, Ok, Err, refl, sym, ap, ◌∙◌, subst, arith, inl, inr}
use Rattle.std.proofs.lemmas.List.{append_assoc}
use Rattle.cbor_view.specs.declared.cbor_kind.CborKind.{CborKind}
use Rattle.cbor_view.specs.declared.cbor_kind.CborKind.TheVariants.{Length, Deep}
use Rattle.cbor_view.specs.declared.stop.Stop.{Stop}
use Rattle.cbor_view.specs.declared.heads.Head.{Head}
use Rattle.cbor_view.specs.declared.heads.Head.TheVariants as heads
use Rattle.cbor_view.specs.Tree.{Tree, Array, Map, Tag}
use Rattle.cbor_view.specs.Reading.{◌>>=◌, head_at, items_at, pairs_at, item_at, behind, behind_head, stop}
use Rattle.cbor_view.specs.Parts.{Part, body_of, parts_at, entries_at, array_after, map_after, tag_after}
use Rattle.cbor_view.specs.PartialItem.{PartialItem, whole, front, item_first, pair_first, whole_run, own_fault, unfinished, unfinished_array, unfinished_map, unfinished_entry, partial_item_at, partial_items, partial_pairs, partial_tag, both_whole, tagged_whole, until_broken, partial_pair_at, partial_value_at}
use Rattle.cbor_view.specs.PartialHead.{opened, head_and_body, array_count, map_count, tag_number}
use Rattle.cbor_view.proofs.HeadReading.{AreBytes, if-cases, bind-ok, first-same, second-same, head-sound, typed-again}
use Rattle.cbor_view.proofs.ItemReading.{item-sound, items-sound, pairs-sound}
use Rattle.cbor_view.proofs.PartialFaults.{bind-err, item-flat, item-deep, partial-flat, partial-cut, partial-whole, leaves-head, items-stop, pairs-stop, first-some, first-none}
use Rattle.cbor_view.proofs.PartialParts.{front-is, body-is, whole-head, all-whole, pairs-whole}

abbrev read : {A : Type 0} → A → List ℕ → Result (A × List ℕ) Stop
read x rest = Ok (x, rest)

-- ---- the head

pub record Begins (d : ℕ) (p : Part) (h : Head) (k : ℕ) (q : Part) : Type 0 where
  pub rest : List ℕ
  pub deeper : d ≡ suc k
  pub head : head_at p.bytes ≡ Ok (h, rest)
  pub body : q ≡ body_of p rest

record Opened (m : ℕ) (p : Part) (r : Result (Head × List ℕ) CborKind) (h : Head) (k : ℕ) (q : Part) : Type 0 where
  rest : List ℕ
  same : m ≡ k
  head : r ≡ Ok (h, rest)
  body : q ≡ body_of p rest

opened-some : (m : ℕ) (p : Part) (r : Result (Head × List ℕ) CborKind) (h : Head) (k : ℕ) (q : Part) → Some (h, (k, q)) ≡ opened m p r → Opened m p r h k q
opened-some m p (Ok x) h k q e =
    let s : (h, (k, q)) ≡ (x.0, (m, body_of p x.1)) = cc in
    let f : Head × (ℕ × Part) → Head = λ z. z.0 in
    let g : Head × (ℕ × Part) → ℕ = λ z. z.1.0 in
    let b : Head × (ℕ × Part) → Part = λ z. z.1.1 in
    record { rest = x.1; same = sym (ap g s); head = ap (λ (y : Head). Ok (y, x.1)) (sym (ap f s)); body = ap b s }
opened-some m p (Err kind) h k q e = absurd (cc)

pub begins : (d : ℕ) (p : Part) (h : Head) (k : ℕ) (q : Part) → Some (h, (k, q)) ≡ head_and_body d p → Begins d p h k q
begins zero p h k q e = absurd (cc)
begins (suc m) p h k q e = let o = opened-some m p (head_at p.bytes) h k q e in record { rest = o.rest; deeper = ap suc o.same; head = o.head; body = o.body }

opened-none : (k : ℕ) (p : Part) (r : Result (Head × List ℕ) CborKind) → None ≡ opened k p r → (kind : CborKind) × (r ≡ Err kind)
opened-none k p (Ok x) e = absurd (cc)
opened-none k p (Err kind) e = (kind, refl)

pub array-is : (h : Head) (n : ℕ) → Some n ≡ array_count h → (h ≡ heads.Array n) × (nat_lt n (2 ^ 32) ≡ true)
array-is (heads.Unsigned m) n e = absurd (cc)
array-is (heads.Negative m) n e = absurd (cc)
array-is (heads.Bytes m) n e = absurd (cc)
array-is (heads.Text m) n e = absurd (cc)
array-is (heads.Array m) n e = elim (if-cases (nat_lt m (2 ^ 32)) (Some m) None (Some n) (sym e)) [
  | inl j ↦ let q : m ≡ n = cc in (ap (λ (y : ℕ). heads.Array y) q, subst (λ (y : ℕ). nat_lt y (2 ^ 32) ≡ true) q j.0)
  | inr j ↦ absurd (cc)
]
array-is (heads.Map m) n e = absurd (cc)
array-is (heads.Tag m) n e = absurd (cc)
array-is (heads.Simple m) n e = absurd (cc)
array-is (heads.Float w m) n e = absurd (cc)

map-is : (h : Head) (n : ℕ) → Some n ≡ map_count h → (h ≡ heads.Map n) × (nat_lt n (2 ^ 32) ≡ true)
map-is (heads.Unsigned m) n e = absurd (cc)
map-is (heads.Negative m) n e = absurd (cc)
map-is (heads.Bytes m) n e = absurd (cc)
map-is (heads.Text m) n e = absurd (cc)
map-is (heads.Array m) n e = absurd (cc)
map-is (heads.Map m) n e = elim (if-cases (nat_lt m (2 ^ 32)) (Some m) None (Some n) (sym e)) [
  | inl j ↦ let q : m ≡ n = cc in (ap (λ (y : ℕ). heads.Map y) q, subst (λ (y : ℕ). nat_lt y (2 ^ 32) ≡ true) q j.0)
  | inr j ↦ absurd (cc)
]
map-is (heads.Tag m) n e = absurd (cc)
map-is (heads.Simple m) n e = absurd (cc)
map-is (heads.Float w m) n e = absurd (cc)

tag-is : (h : Head) (n : ℕ) → Some n ≡ tag_number h → h ≡ heads.Tag n
tag-is (heads.Unsigned m) n e = absurd (cc)
tag-is (heads.Negative m) n e = absurd (cc)
tag-is (heads.Bytes m) n e = absurd (cc)
tag-is (heads.Text m) n e = absurd (cc)
tag-is (heads.Array m) n e = absurd (cc)
tag-is (heads.Map m) n e = absurd (cc)
tag-is (heads.Tag m) n e = let q : m ≡ n = cc in ap (λ (y : ℕ). heads.Tag y) q
tag-is (heads.Simple m) n e = absurd (cc)
tag-is (heads.Float w m) n e = absurd (cc)

-- ---- an array

array-read : (k n : ℕ) (bytes rest : List ℕ) → head_at bytes ≡ Ok (heads.Array n, rest) → nat_lt n (2 ^ 32) ≡ true → item_at (suc k) bytes ≡ (items_at (item_at k) n rest >>= λ ts. read (Array ts.0) ts.1)
array-read k n bytes rest h t = item-deep k bytes ∙ (ap (behind_head (Some (item_at k)) (length bytes)) h ∙ ap (λ b. if b then (items_at (item_at k) n rest >>= λ ts. read (Array ts.0) ts.1) else stop Length (length bytes)) t)

array-cut-open : (k n : ℕ) (p : Part) (rest : List ℕ) (s : Stop) → AreBytes p.bytes → head_at p.bytes ≡ Ok (heads.Array n, rest) → nat_lt n (2 ^ 32) ≡ true → item_at (suc k) p.bytes ≡ Err s → partial_items (partial_item_at (suc k) p) ≡ Some (until_broken (partial_item_at k) (item_first k) n (body_of p rest))
array-cut-open k n p rest s are h t i =
    let e = bind-err (items_at (item_at k) n rest) (λ ts. Array ts) s (sym (array-read k n p.bytes rest h t) ∙ i) in
    let l = leaves-head p.bytes rest (heads.Array n) are h in
    let r = items-stop k n (body_of p rest) s l.are e in
    ap partial_items (partial-cut k p s i)
    ∙ (ap (λ (y : Result (Head × List ℕ) CborKind). partial_items (unfinished k (partial_item_at k) p s.kind y)) h
    ∙ (ap (λ b. partial_items (if b then unfinished_array (partial_item_at k) p.at n (whole_run (item_first k) n (body_of p rest)) else own_fault p s.kind)) t
    ∙ (ap (λ (w : List Part × Part). partial_items (unfinished_array (partial_item_at k) p.at n w)) r.run_is
    ∙ ap (λ (gs : List PartialItem). Some gs) (sym r.row_is))))

array-whole-open : (k n : ℕ) (p : Part) (rest : List ℕ) (x : Tree × List ℕ) → suc k ≤ 32 → AreBytes p.bytes → head_at p.bytes ≡ Ok (heads.Array n, rest) → nat_lt n (2 ^ 32) ≡ true → item_at (suc k) p.bytes ≡ Ok x → partial_items (partial_item_at (suc k) p) ≡ Some (until_broken (partial_item_at k) (item_first k) n (body_of p rest))
array-whole-open k n p rest x m are h t i =
    let b = bind-ok (items_at (item_at k) n rest) (λ ts. read (Array ts.0) ts.1) x (sym (array-read k n p.bytes rest h t) ∙ i) in
    let l = leaves-head p.bytes rest (heads.Array n) are h in
    let s = items-sound k (item_at k) (item-sound k) n rest b.value.1 b.value.0 l.are b.before in
    let a = head-sound p.bytes rest (heads.Array n) are h in
    let same : b.value.1 ≡ x.1 = second-same (Array b.value.0, b.value.1) x b.after in
    let f : Part = record { at = p.at; bytes = a.front ++ s.front } in
    let all : p.bytes ≡ (a.front ++ s.front) ++ x.1 = a.whole ∙ (ap (λ (y : List ℕ). a.front ++ y) (s.whole ∙ ap (λ (y : List ℕ). s.front ++ y) same) ∙ sym (append_assoc a.front s.front x.1)) in
    let here : body_of p rest ≡ record { at = p.at + length a.front; bytes = s.front ++ b.value.1 } = body-is p a.front rest a.whole ∙ ap (λ (y : List ℕ). record { at = p.at + length a.front; bytes = y }) s.whole in
    let told = subst (λ (c : ℕ). until_broken (partial_item_at k) (item_first k) c (record { at = p.at + length a.front; bytes = s.front ++ b.value.1 }) ≡ map (λ q. whole q) (parts_at c (record { at = p.at + length a.front; bytes = s.front }))) s.counts (all-whole b.value.0 k (p.at + length a.front) s.front b.value.1 s.spelled s.nesting (omega arith)) in
    ap partial_items (partial-whole (suc k) p x i)
    ∙ (ap (λ (q : Part). partial_items (whole q)) (front-is p (a.front ++ s.front) x.1 all)
    ∙ (ap (λ (y : Result (Head × List ℕ) CborKind). option_map (map (λ q. whole q)) (array_after f y)) (typed-again (heads.Array n) a.front s.front a.head_of)
    ∙ (ap (λ (q : Part). Some (map (λ q. whole q) (parts_at n q))) (body-is f a.front s.front refl)
    ∙ (ap (λ (gs : List PartialItem). Some gs) (sym told)
    ∙ ap (λ (q : Part). Some (until_broken (partial_item_at k) (item_first k) n q)) (sym here)))))

array-open : (k n : ℕ) (p : Part) (rest : List ℕ) → suc k ≤ 32 → AreBytes p.bytes → head_at p.bytes ≡ Ok (heads.Array n, rest) → nat_lt n (2 ^ 32) ≡ true → partial_items (partial_item_at (suc k) p) ≡ Some (until_broken (partial_item_at k) (item_first k) n (body_of p rest))
array-open k n p rest m are h t = elim (item_at (suc k) p.bytes) as (λ r. item_at (suc k) p.bytes ≡ r → partial_items (partial_item_at (suc k) p) ≡ Some (until_broken (partial_item_at k) (item_first k) n (body_of p rest))) [
  | Ok x ↦ λ i. array-whole-open k n p rest x m are h t i
  | Err s ↦ λ i. array-cut-open k n p rest s are h t i
] refl

pub items-open : (d : ℕ) (p : Part) (h : Head) (k : ℕ) (q : Part) (n : ℕ) → d ≤ 32 → AreBytes p.bytes → Some (h, (k, q)) ≡ head_and_body d p → Some n ≡ array_count h → Some (until_broken (partial_item_at k) (item_first k) n q) ≡ partial_items (partial_item_at d p)
items-open d p h k q n m are e c =
    let b = begins d p h k q e in
    let a = array-is h n c in
    let hd : head_at p.bytes ≡ Ok (heads.Array n, b.rest) = b.head ∙ ap (λ (y : Head). Ok (y, b.rest)) a.0 in
    let g = array-open k n p b.rest (subst (λ (y : ℕ). y ≤ 32) b.deeper m) are hd a.1 in
    ap (λ (y : Part). Some (until_broken (partial_item_at k) (item_first k) n y)) b.body ∙ (sym g ∙ ap (λ (y : ℕ). partial_items (partial_item_at y p)) (sym b.deeper))

-- ---- a map

map-read : (k n : ℕ) (bytes rest : List ℕ) → head_at bytes ≡ Ok (heads.Map n, rest) → nat_lt n (2 ^ 32) ≡ true → item_at (suc k) bytes ≡ (pairs_at (item_at k) n rest >>= λ ps. read (Map ps.0) ps.1)
map-read k n bytes rest h t = item-deep k bytes ∙ (ap (behind_head (Some (item_at k)) (length bytes)) h ∙ ap (λ b. if b then (pairs_at (item_at k) n rest >>= λ ps. read (Map ps.0) ps.1) else stop Length (length bytes)) t)

entry-open : (k : ℕ) (at : ℕ) (es : List (Part × Part)) (q : Part) (first : Option (Part × Part)) → item_first k q ≡ first → ((s : Part × Part) → first ≡ Some s → partial_pair_at k q ≡ (whole s.0, Some (partial_item_at k s.1))) → partial_pairs (unfinished_entry (partial_item_at k) at es q first) ≡ Some (map both_whole es ++ (partial_pair_at k q ∷ []))
entry-open k at es q None f h = ap (λ (o : Option (Part × Part)). Some (map both_whole es ++ ((partial_item_at k q, partial_value_at k o) ∷ []))) (sym f)
entry-open k at es q (Some s) f h = ap (λ (g : PartialItem × Option PartialItem). Some (map both_whole es ++ (g ∷ []))) (sym (h s refl))

key-seen : (k : ℕ) (q : Part) (s : Part × Part) → item_first k q ≡ Some s → partial_pair_at k q ≡ (whole s.0, Some (partial_item_at k s.1))
key-seen k q s f = elim (item_at k q.bytes) as (λ r. item_at k q.bytes ≡ r → partial_pair_at k q ≡ (whole s.0, Some (partial_item_at k s.1))) [
  | Ok x ↦ λ i.
      let e : Some (front q x.1, body_of q x.1) ≡ Some s = sym (first-some k q x i) ∙ f in
      let z : (front q x.1, body_of q x.1) ≡ s = cc in
      ap (λ (o : Option (Part × Part)). (partial_item_at k q, partial_value_at k o)) f
      ∙ ap (λ (g : PartialItem). (g, Some (partial_item_at k s.1))) (partial-whole k q x i ∙ ap (λ (y : Part × Part). whole y.0) z)
  | Err z ↦ λ i. let e : None ≡ Some s = sym (first-none k q z i) ∙ f in absurd (cc)
] refl

map-cut-open : (k n : ℕ) (p : Part) (rest : List ℕ) (s : Stop) → AreBytes p.bytes → head_at p.bytes ≡ Ok (heads.Map n, rest) → nat_lt n (2 ^ 32) ≡ true → item_at (suc k) p.bytes ≡ Err s → partial_pairs (partial_item_at (suc k) p) ≡ Some (until_broken (partial_pair_at k) (pair_first k) n (body_of p rest))
map-cut-open k n p rest s are h t i =
    let e = bind-err (pairs_at (item_at k) n rest) (λ ps. Map ps) s (sym (map-read k n p.bytes rest h t) ∙ i) in
    let l = leaves-head p.bytes rest (heads.Map n) are h in
    let r = pairs-stop k n (body_of p rest) s l.are e in
    ap partial_pairs (partial-cut k p s i)
    ∙ (ap (λ (y : Result (Head × List ℕ) CborKind). partial_pairs (unfinished k (partial_item_at k) p s.kind y)) h
    ∙ (ap (λ b. partial_pairs (if b then unfinished_map k (partial_item_at k) p.at (whole_run (pair_first k) n (body_of p rest)) else own_fault p s.kind)) t
    ∙ (ap (λ (w : List (Part × Part) × Part). partial_pairs (unfinished_map k (partial_item_at k) p.at w)) r.run_is
    ∙ (entry-open k p.at r.parts r.next (item_first k r.next) refl (λ z f. key-seen k r.next z f)
    ∙ ap (λ (gs : List (PartialItem × Option PartialItem)). Some gs) (sym r.row_is)))))

map-whole-open : (k n : ℕ) (p : Part) (rest : List ℕ) (x : Tree × List ℕ) → suc k ≤ 32 → AreBytes p.bytes → head_at p.bytes ≡ Ok (heads.Map n, rest) → nat_lt n (2 ^ 32) ≡ true → item_at (suc k) p.bytes ≡ Ok x → partial_pairs (partial_item_at (suc k) p) ≡ Some (until_broken (partial_pair_at k) (pair_first k) n (body_of p rest))
map-whole-open k n p rest x m are h t i =
    let b = bind-ok (pairs_at (item_at k) n rest) (λ ps. read (Map ps.0) ps.1) x (sym (map-read k n p.bytes rest h t) ∙ i) in
    let l = leaves-head p.bytes rest (heads.Map n) are h in
    let s = pairs-sound k (item_at k) (item-sound k) n rest b.value.1 b.value.0 l.are b.before in
    let a = head-sound p.bytes rest (heads.Map n) are h in
    let same : b.value.1 ≡ x.1 = second-same (Map b.value.0, b.value.1) x b.after in
    let f : Part = record { at = p.at; bytes = a.front ++ s.front } in
    let all : p.bytes ≡ (a.front ++ s.front) ++ x.1 = a.whole ∙ (ap (λ (y : List ℕ). a.front ++ y) (s.whole ∙ ap (λ (y : List ℕ). s.front ++ y) same) ∙ sym (append_assoc a.front s.front x.1)) in
    let here : body_of p rest ≡ record { at = p.at + length a.front; bytes = s.front ++ b.value.1 } = body-is p a.front rest a.whole ∙ ap (λ (y : List ℕ). record { at = p.at + length a.front; bytes = y }) s.whole in
    let told = subst (λ (c : ℕ). until_broken (partial_pair_at k) (pair_first k) c (record { at = p.at + length a.front; bytes = s.front ++ b.value.1 }) ≡ map both_whole (entries_at c (record { at = p.at + length a.front; bytes = s.front }))) s.counts (pairs-whole b.value.0 k (p.at + length a.front) s.front b.value.1 s.spelled s.nesting (omega arith)) in
    ap partial_pairs (partial-whole (suc k) p x i)
    ∙ (ap (λ (q : Part). partial_pairs (whole q)) (front-is p (a.front ++ s.front) x.1 all)
    ∙ (ap (λ (y : Result (Head × List ℕ) CborKind). option_map (map both_whole) (map_after f y)) (typed-again (heads.Map n) a.front s.front a.head_of)
    ∙ (ap (λ (q : Part). Some (map both_whole (entries_at n q))) (body-is f a.front s.front refl)
    ∙ (ap (λ (gs : List (PartialItem × Option PartialItem)). Some gs) (sym told)
    ∙ ap (λ (q : Part). Some (until_broken (partial_pair_at k) (pair_first k) n q)) (sym here)))))

map-open : (k n : ℕ) (p : Part) (rest : List ℕ) → suc k ≤ 32 → AreBytes p.bytes → head_at p.bytes ≡ Ok (heads.Map n, rest) → nat_lt n (2 ^ 32) ≡ true → partial_pairs (partial_item_at (suc k) p) ≡ Some (until_broken (partial_pair_at k) (pair_first k) n (body_of p rest))
map-open k n p rest m are h t = elim (item_at (suc k) p.bytes) as (λ r. item_at (suc k) p.bytes ≡ r → partial_pairs (partial_item_at (suc k) p) ≡ Some (until_broken (partial_pair_at k) (pair_first k) n (body_of p rest))) [
  | Ok x ↦ λ i. map-whole-open k n p rest x m are h t i
  | Err s ↦ λ i. map-cut-open k n p rest s are h t i
] refl

pub pairs-open : (d : ℕ) (p : Part) (h : Head) (k : ℕ) (q : Part) (n : ℕ) → d ≤ 32 → AreBytes p.bytes → Some (h, (k, q)) ≡ head_and_body d p → Some n ≡ map_count h → Some (until_broken (partial_pair_at k) (pair_first k) n q) ≡ partial_pairs (partial_item_at d p)
pairs-open d p h k q n m are e c =
    let b = begins d p h k q e in
    let a = map-is h n c in
    let hd : head_at p.bytes ≡ Ok (heads.Map n, b.rest) = b.head ∙ ap (λ (y : Head). Ok (y, b.rest)) a.0 in
    let g = map-open k n p b.rest (subst (λ (y : ℕ). y ≤ 32) b.deeper m) are hd a.1 in
    ap (λ (y : Part). Some (until_broken (partial_pair_at k) (pair_first k) n y)) b.body ∙ (sym g ∙ ap (λ (y : ℕ). partial_pairs (partial_item_at y p)) (sym b.deeper))

-- ---- a tag

tag-read : (k n : ℕ) (bytes rest : List ℕ) → head_at bytes ≡ Ok (heads.Tag n, rest) → item_at (suc k) bytes ≡ (item_at k rest >>= λ t. read (Tag n t.0) t.1)
tag-read k n bytes rest h = item-deep k bytes ∙ ap (behind_head (Some (item_at k)) (length bytes)) h

tag-whole-open : (k n : ℕ) (p : Part) (rest : List ℕ) (x : Tree × List ℕ) → suc k ≤ 32 → AreBytes p.bytes → head_at p.bytes ≡ Ok (heads.Tag n, rest) → item_at (suc k) p.bytes ≡ Ok x → partial_tag (partial_item_at (suc k) p) ≡ Some (n, partial_item_at k (body_of p rest))
tag-whole-open k n p rest x m are h i =
    let b = bind-ok (item_at k rest) (λ t. read (Tag n t.0) t.1) x (sym (tag-read k n p.bytes rest h) ∙ i) in
    let l = leaves-head p.bytes rest (heads.Tag n) are h in
    let s = (item-sound k).each rest b.value.1 b.value.0 l.are b.before in
    let a = head-sound p.bytes rest (heads.Tag n) are h in
    let same : b.value.1 ≡ x.1 = second-same (Tag n b.value.0, b.value.1) x b.after in
    let f : Part = record { at = p.at; bytes = a.front ++ s.front } in
    let all : p.bytes ≡ (a.front ++ s.front) ++ x.1 = a.whole ∙ (ap (λ (y : List ℕ). a.front ++ y) (s.whole ∙ ap (λ (y : List ℕ). s.front ++ y) same) ∙ sym (append_assoc a.front s.front x.1)) in
    let place : (body_of p rest).at ≡ p.at + length a.front = ap (λ (q : Part). q.at) (body-is p a.front rest a.whole) in
    let told : partial_item_at k (body_of p rest) ≡ whole (record { at = p.at + length a.front; bytes = s.front }) = partial-whole k (body_of p rest) b.value b.before ∙ (ap (λ (q : Part). whole q) (front-is (body_of p rest) s.front b.value.1 s.whole) ∙ ap (λ (y : ℕ). whole (record { at = y; bytes = s.front })) place) in
    ap partial_tag (partial-whole (suc k) p x i)
    ∙ (ap (λ (q : Part). partial_tag (whole q)) (front-is p (a.front ++ s.front) x.1 all)
    ∙ (ap (λ (y : Result (Head × List ℕ) CborKind). option_map tagged_whole (tag_after f y)) (typed-again (heads.Tag n) a.front s.front a.head_of)
    ∙ (ap (λ (q : Part). Some (n, whole q)) (body-is f a.front s.front refl)
    ∙ ap (λ (g : PartialItem). Some (n, g)) (sym told))))

tag-open-at : (k n : ℕ) (p : Part) (rest : List ℕ) → suc k ≤ 32 → AreBytes p.bytes → head_at p.bytes ≡ Ok (heads.Tag n, rest) → partial_tag (partial_item_at (suc k) p) ≡ Some (n, partial_item_at k (body_of p rest))
tag-open-at k n p rest m are h = elim (item_at (suc k) p.bytes) as (λ r. item_at (suc k) p.bytes ≡ r → partial_tag (partial_item_at (suc k) p) ≡ Some (n, partial_item_at k (body_of p rest))) [
  | Ok x ↦ λ i. tag-whole-open k n p rest x m are h i
  | Err s ↦ λ i. ap partial_tag (partial-cut k p s i) ∙ ap (λ (y : Result (Head × List ℕ) CborKind). partial_tag (unfinished k (partial_item_at k) p s.kind y)) h
] refl

pub tag-open : (d : ℕ) (p : Part) (h : Head) (k : ℕ) (q : Part) (n : ℕ) → d ≤ 32 → AreBytes p.bytes → Some (h, (k, q)) ≡ head_and_body d p → Some n ≡ tag_number h → Some (n, partial_item_at k q) ≡ partial_tag (partial_item_at d p)
tag-open d p h k q n m are e c =
    let b = begins d p h k q e in
    let hd : head_at p.bytes ≡ Ok (heads.Tag n, b.rest) = b.head ∙ ap (λ (y : Head). Ok (y, b.rest)) (tag-is h n c) in
    let g = tag-open-at k n p b.rest (subst (λ (y : ℕ). y ≤ 32) b.deeper m) are hd in
    ap (λ (y : Part). Some (n, partial_item_at k y)) b.body ∙ (sym g ∙ ap (λ (y : ℕ). partial_tag (partial_item_at y p)) (sym b.deeper))

-- ---- nothing of another kind

abbrev array_argument : Head → Option ℕ
array_argument (heads.Array n) = Some n
array_argument _ = None

no-array-entry : (one : Part → PartialItem) (at : ℕ) (es : List (Part × Part)) (q : Part) (first : Option (Part × Part)) → None ≡ partial_items (unfinished_entry one at es q first)
no-array-entry one at es q None = refl
no-array-entry one at es q (Some s) = refl

no-array-cut : (k : ℕ) (one : Part → PartialItem) (p : Part) (kind : CborKind) (h : Head) (rest : List ℕ) → None ≡ array_count h → None ≡ partial_items (unfinished k one p kind (Ok (h, rest)))
no-array-cut k one p kind (heads.Unsigned n) rest z = refl
no-array-cut k one p kind (heads.Negative n) rest z = refl
no-array-cut k one p kind (heads.Bytes n) rest z = refl
no-array-cut k one p kind (heads.Text n) rest z = refl
no-array-cut k one p kind (heads.Array n) rest z = elim (if-cases (nat_lt n (2 ^ 32)) (Some n) None None (sym z)) [ inl j ↦ absurd (cc) | inr j ↦ let t : nat_lt n (2 ^ 32) ≡ false = j.0 in rw t refl ]
no-array-cut k one p kind (heads.Map n) rest z = let w = whole_run (pair_first k) n (body_of p rest) in elim (nat_lt n (2 ^ 32)) as (λ b. None ≡ partial_items (if b then unfinished_map k one p.at w else own_fault p kind)) [ true ↦ no-array-entry one p.at w.0 w.1 (item_first k w.1) | false ↦ refl ]
no-array-cut k one p kind (heads.Tag n) rest z = refl
no-array-cut k one p kind (heads.Simple n) rest z = refl
no-array-cut k one p kind (heads.Float w n) rest z = refl

array-within : (k left : ℕ) (h : Head) (rest : List ℕ) (x : Tree × List ℕ) → None ≡ array_count h → behind (Some (item_at k)) left h rest ≡ Ok x → None ≡ array_argument h
array-within k left (heads.Unsigned n) rest x z e = refl
array-within k left (heads.Negative n) rest x z e = refl
array-within k left (heads.Bytes n) rest x z e = refl
array-within k left (heads.Text n) rest x z e = refl
array-within k left (heads.Array n) rest x z e = elim (if-cases (nat_lt n (2 ^ 32)) (items_at (item_at k) n rest >>= λ ts. read (Array ts.0) ts.1) (stop Length left) (Ok x) e) [
  | inl j ↦ let c : Some n ≡ array_count (heads.Array n) = let t : nat_lt n (2 ^ 32) ≡ true = j.0 in rw t refl in absurd (cc)
  | inr j ↦ absurd (cc)
]
array-within k left (heads.Map n) rest x z e = refl
array-within k left (heads.Tag n) rest x z e = refl
array-within k left (heads.Simple n) rest x z e = refl
array-within k left (heads.Float w n) rest x z e = refl

array-flat : (left : ℕ) (h : Head) (rest : List ℕ) (x : Tree × List ℕ) → behind None left h rest ≡ Ok x → None ≡ array_argument h
array-flat left (heads.Unsigned n) rest x e = refl
array-flat left (heads.Negative n) rest x e = refl
array-flat left (heads.Bytes n) rest x e = refl
array-flat left (heads.Text n) rest x e = refl
array-flat left (heads.Array n) rest x e = elim (if-cases (nat_lt n (2 ^ 32)) (stop Deep left) (stop Length left) (Ok x) e) [ inl j ↦ absurd (cc) | inr j ↦ absurd (cc) ]
array-flat left (heads.Map n) rest x e = refl
array-flat left (heads.Tag n) rest x e = refl
array-flat left (heads.Simple n) rest x e = refl
array-flat left (heads.Float w n) rest x e = refl

no-array-whole : (f : Part) (h : Head) (body : List ℕ) → None ≡ array_argument h → None ≡ option_map (map (λ q. whole q)) (array_after f (Ok (h, body)))
no-array-whole f (heads.Unsigned n) body z = refl
no-array-whole f (heads.Negative n) body z = refl
no-array-whole f (heads.Bytes n) body z = refl
no-array-whole f (heads.Text n) body z = refl
no-array-whole f (heads.Array n) body z = absurd (cc)
no-array-whole f (heads.Map n) body z = refl
no-array-whole f (heads.Tag n) body z = refl
no-array-whole f (heads.Simple n) body z = refl
no-array-whole f (heads.Float w n) body z = refl

no-array-front : (d : ℕ) (p : Part) (x : Tree × List ℕ) (h : Head) (body : List ℕ) → item_at d p.bytes ≡ Ok x → head_at (front p x.1).bytes ≡ Ok (h, body) → None ≡ array_argument h → None ≡ partial_items (partial_item_at d p)
no-array-front d p x h body i own_head a = no-array-whole (front p x.1) h body a ∙ (ap (λ (y : Result (Head × List ℕ) CborKind). option_map (map (λ q. whole q)) (array_after (front p x.1) y)) (sym own_head) ∙ ap partial_items (sym (partial-whole d p x i)))

no-array-at : (k : ℕ) (p : Part) (h : Head) (rest : List ℕ) → suc k ≤ 32 → AreBytes p.bytes → head_at p.bytes ≡ Ok (h, rest) → None ≡ array_count h → None ≡ partial_items (partial_item_at (suc k) p)
no-array-at k p h rest m are hd z = elim (item_at (suc k) p.bytes) as (λ r. item_at (suc k) p.bytes ≡ r → None ≡ partial_items (partial_item_at (suc k) p)) [
  | Ok x ↦ λ i.
      let w = whole-head (suc k) p x m are i in
      let same : w.h ≡ h = first-same (w.h, w.body ++ x.1) (h, rest) (sym w.all ∙ hd) in
      let a : None ≡ array_argument h = array-within k (length p.bytes) h rest x z (sym (ap (behind_head (Some (item_at k)) (length p.bytes)) hd) ∙ (sym (item-deep k p.bytes) ∙ i)) in
      no-array-front (suc k) p x w.h w.body i w.own_fault (subst (λ (y : Head). None ≡ array_argument y) (sym same) a)
  | Err s ↦ λ i. no-array-cut k (partial_item_at k) p s.kind h rest z ∙ (ap (λ (y : Result (Head × List ℕ) CborKind). partial_items (unfinished k (partial_item_at k) p s.kind y)) (sym hd) ∙ ap partial_items (sym (partial-cut k p s i)))
] refl

pub no-array : (d : ℕ) (p : Part) (h : Head) (k : ℕ) (q : Part) → d ≤ 32 → AreBytes p.bytes → Some (h, (k, q)) ≡ head_and_body d p → None ≡ array_count h → None ≡ partial_items (partial_item_at d p)
no-array d p h k q m are e z =
    let b = begins d p h k q e in
    no-array-at k p h b.rest (subst (λ (y : ℕ). y ≤ 32) b.deeper m) are b.head z ∙ ap (λ (y : ℕ). partial_items (partial_item_at y p)) (sym b.deeper)

pub array-closed : (d : ℕ) (p : Part) → d ≤ 32 → AreBytes p.bytes → None ≡ head_and_body d p → None ≡ partial_items (partial_item_at d p)
array-closed zero p m are e = elim (item_at 0 p.bytes) as (λ r. item_at 0 p.bytes ≡ r → None ≡ partial_items (partial_item_at 0 p)) [
  | Ok x ↦ λ i.
      let w = whole-head 0 p x m are i in
      no-array-front 0 p x w.h w.body i w.own_fault (array-flat (length p.bytes) w.h (w.body ++ x.1) x (sym (ap (behind_head None (length p.bytes)) w.all) ∙ (sym (item-flat p.bytes) ∙ i)))
  | Err s ↦ λ i. ap partial_items (sym (partial-flat p s i))
] refl
array-closed (suc k) p m are e =
    let o = opened-none k p (head_at p.bytes) e in
    let s : Stop = record { kind = o.0; left = length p.bytes } in
    let i : item_at (suc k) p.bytes ≡ Err s = item-deep k p.bytes ∙ ap (behind_head (Some (item_at k)) (length p.bytes)) o.1 in
    ap (λ (y : Result (Head × List ℕ) CborKind). partial_items (unfinished k (partial_item_at k) p s.kind y)) (sym o.1) ∙ ap partial_items (sym (partial-cut k p s i))

abbrev map_argument : Head → Option ℕ
map_argument (heads.Map n) = Some n
map_argument _ = None

no-map-cut : (k : ℕ) (one : Part → PartialItem) (p : Part) (kind : CborKind) (h : Head) (rest : List ℕ) → None ≡ map_count h → None ≡ partial_pairs (unfinished k one p kind (Ok (h, rest)))
no-map-cut k one p kind (heads.Unsigned n) rest z = refl
no-map-cut k one p kind (heads.Negative n) rest z = refl
no-map-cut k one p kind (heads.Bytes n) rest z = refl
no-map-cut k one p kind (heads.Text n) rest z = refl
no-map-cut k one p kind (heads.Array n) rest z = elim (nat_lt n (2 ^ 32)) as (λ b. None ≡ partial_pairs (if b then unfinished_array one p.at n (whole_run (item_first k) n (body_of p rest)) else own_fault p kind)) [ true ↦ refl | false ↦ refl ]
no-map-cut k one p kind (heads.Map n) rest z = elim (if-cases (nat_lt n (2 ^ 32)) (Some n) None None (sym z)) [ inl j ↦ absurd (cc) | inr j ↦ let t : nat_lt n (2 ^ 32) ≡ false = j.0 in rw t refl ]
no-map-cut k one p kind (heads.Tag n) rest z = refl
no-map-cut k one p kind (heads.Simple n) rest z = refl
no-map-cut k one p kind (heads.Float w n) rest z = refl

map-within : (k left : ℕ) (h : Head) (rest : List ℕ) (x : Tree × List ℕ) → None ≡ map_count h → behind (Some (item_at k)) left h rest ≡ Ok x → None ≡ map_argument h
map-within k left (heads.Unsigned n) rest x z e = refl
map-within k left (heads.Negative n) rest x z e = refl
map-within k left (heads.Bytes n) rest x z e = refl
map-within k left (heads.Text n) rest x z e = refl
map-within k left (heads.Array n) rest x z e = refl
map-within k left (heads.Map n) rest x z e = elim (if-cases (nat_lt n (2 ^ 32)) (pairs_at (item_at k) n rest >>= λ ps. read (Map ps.0) ps.1) (stop Length left) (Ok x) e) [
  | inl j ↦ let c : Some n ≡ map_count (heads.Map n) = let t : nat_lt n (2 ^ 32) ≡ true = j.0 in rw t refl in absurd (cc)
  | inr j ↦ absurd (cc)
]
map-within k left (heads.Tag n) rest x z e = refl
map-within k left (heads.Simple n) rest x z e = refl
map-within k left (heads.Float w n) rest x z e = refl

map-flat : (left : ℕ) (h : Head) (rest : List ℕ) (x : Tree × List ℕ) → behind None left h rest ≡ Ok x → None ≡ map_argument h
map-flat left (heads.Unsigned n) rest x e = refl
map-flat left (heads.Negative n) rest x e = refl
map-flat left (heads.Bytes n) rest x e = refl
map-flat left (heads.Text n) rest x e = refl
map-flat left (heads.Array n) rest x e = refl
map-flat left (heads.Map n) rest x e = elim (if-cases (nat_lt n (2 ^ 32)) (stop Deep left) (stop Length left) (Ok x) e) [ inl j ↦ absurd (cc) | inr j ↦ absurd (cc) ]
map-flat left (heads.Tag n) rest x e = refl
map-flat left (heads.Simple n) rest x e = refl
map-flat left (heads.Float w n) rest x e = refl

no-map-whole : (f : Part) (h : Head) (body : List ℕ) → None ≡ map_argument h → None ≡ option_map (map both_whole) (map_after f (Ok (h, body)))
no-map-whole f (heads.Unsigned n) body z = refl
no-map-whole f (heads.Negative n) body z = refl
no-map-whole f (heads.Bytes n) body z = refl
no-map-whole f (heads.Text n) body z = refl
no-map-whole f (heads.Array n) body z = refl
no-map-whole f (heads.Map n) body z = absurd (cc)
no-map-whole f (heads.Tag n) body z = refl
no-map-whole f (heads.Simple n) body z = refl
no-map-whole f (heads.Float w n) body z = refl

no-map-front : (d : ℕ) (p : Part) (x : Tree × List ℕ) (h : Head) (body : List ℕ) → item_at d p.bytes ≡ Ok x → head_at (front p x.1).bytes ≡ Ok (h, body) → None ≡ map_argument h → None ≡ partial_pairs (partial_item_at d p)
no-map-front d p x h body i own_head a = no-map-whole (front p x.1) h body a ∙ (ap (λ (y : Result (Head × List ℕ) CborKind). option_map (map both_whole) (map_after (front p x.1) y)) (sym own_head) ∙ ap partial_pairs (sym (partial-whole d p x i)))

no-map-at : (k : ℕ) (p : Part) (h : Head) (rest : List ℕ) → suc k ≤ 32 → AreBytes p.bytes → head_at p.bytes ≡ Ok (h, rest) → None ≡ map_count h → None ≡ partial_pairs (partial_item_at (suc k) p)
no-map-at k p h rest m are hd z = elim (item_at (suc k) p.bytes) as (λ r. item_at (suc k) p.bytes ≡ r → None ≡ partial_pairs (partial_item_at (suc k) p)) [
  | Ok x ↦ λ i.
      let w = whole-head (suc k) p x m are i in
      let same : w.h ≡ h = first-same (w.h, w.body ++ x.1) (h, rest) (sym w.all ∙ hd) in
      let a : None ≡ map_argument h = map-within k (length p.bytes) h rest x z (sym (ap (behind_head (Some (item_at k)) (length p.bytes)) hd) ∙ (sym (item-deep k p.bytes) ∙ i)) in
      no-map-front (suc k) p x w.h w.body i w.own_fault (subst (λ (y : Head). None ≡ map_argument y) (sym same) a)
  | Err s ↦ λ i. no-map-cut k (partial_item_at k) p s.kind h rest z ∙ (ap (λ (y : Result (Head × List ℕ) CborKind). partial_pairs (unfinished k (partial_item_at k) p s.kind y)) (sym hd) ∙ ap partial_pairs (sym (partial-cut k p s i)))
] refl

pub no-map : (d : ℕ) (p : Part) (h : Head) (k : ℕ) (q : Part) → d ≤ 32 → AreBytes p.bytes → Some (h, (k, q)) ≡ head_and_body d p → None ≡ map_count h → None ≡ partial_pairs (partial_item_at d p)
no-map d p h k q m are e z =
    let b = begins d p h k q e in
    no-map-at k p h b.rest (subst (λ (y : ℕ). y ≤ 32) b.deeper m) are b.head z ∙ ap (λ (y : ℕ). partial_pairs (partial_item_at y p)) (sym b.deeper)

pub map-closed : (d : ℕ) (p : Part) → d ≤ 32 → AreBytes p.bytes → None ≡ head_and_body d p → None ≡ partial_pairs (partial_item_at d p)
map-closed zero p m are e = elim (item_at 0 p.bytes) as (λ r. item_at 0 p.bytes ≡ r → None ≡ partial_pairs (partial_item_at 0 p)) [
  | Ok x ↦ λ i.
      let w = whole-head 0 p x m are i in
      no-map-front 0 p x w.h w.body i w.own_fault (map-flat (length p.bytes) w.h (w.body ++ x.1) x (sym (ap (behind_head None (length p.bytes)) w.all) ∙ (sym (item-flat p.bytes) ∙ i)))
  | Err s ↦ λ i. ap partial_pairs (sym (partial-flat p s i))
] refl
map-closed (suc k) p m are e =
    let o = opened-none k p (head_at p.bytes) e in
    let s : Stop = record { kind = o.0; left = length p.bytes } in
    let i : item_at (suc k) p.bytes ≡ Err s = item-deep k p.bytes ∙ ap (behind_head (Some (item_at k)) (length p.bytes)) o.1 in
    ap (λ (y : Result (Head × List ℕ) CborKind). partial_pairs (unfinished k (partial_item_at k) p s.kind y)) (sym o.1) ∙ ap partial_pairs (sym (partial-cut k p s i))

abbrev tag_argument : Head → Option ℕ
tag_argument (heads.Tag n) = Some n
tag_argument _ = None

no-tag-entry : (one : Part → PartialItem) (at : ℕ) (es : List (Part × Part)) (q : Part) (first : Option (Part × Part)) → None ≡ partial_tag (unfinished_entry one at es q first)
no-tag-entry one at es q None = refl
no-tag-entry one at es q (Some s) = refl

no-tag-cut : (k : ℕ) (one : Part → PartialItem) (p : Part) (kind : CborKind) (h : Head) (rest : List ℕ) → None ≡ tag_number h → None ≡ partial_tag (unfinished k one p kind (Ok (h, rest)))
no-tag-cut k one p kind (heads.Unsigned n) rest z = refl
no-tag-cut k one p kind (heads.Negative n) rest z = refl
no-tag-cut k one p kind (heads.Bytes n) rest z = refl
no-tag-cut k one p kind (heads.Text n) rest z = refl
no-tag-cut k one p kind (heads.Array n) rest z = elim (nat_lt n (2 ^ 32)) as (λ b. None ≡ partial_tag (if b then unfinished_array one p.at n (whole_run (item_first k) n (body_of p rest)) else own_fault p kind)) [ true ↦ refl | false ↦ refl ]
no-tag-cut k one p kind (heads.Map n) rest z = let w = whole_run (pair_first k) n (body_of p rest) in elim (nat_lt n (2 ^ 32)) as (λ b. None ≡ partial_tag (if b then unfinished_map k one p.at w else own_fault p kind)) [ true ↦ no-tag-entry one p.at w.0 w.1 (item_first k w.1) | false ↦ refl ]
no-tag-cut k one p kind (heads.Tag n) rest z = absurd (cc)
no-tag-cut k one p kind (heads.Simple n) rest z = refl
no-tag-cut k one p kind (heads.Float w n) rest z = refl

tag-within : (k left : ℕ) (h : Head) (rest : List ℕ) (x : Tree × List ℕ) → None ≡ tag_number h → behind (Some (item_at k)) left h rest ≡ Ok x → None ≡ tag_argument h
tag-within k left (heads.Unsigned n) rest x z e = refl
tag-within k left (heads.Negative n) rest x z e = refl
tag-within k left (heads.Bytes n) rest x z e = refl
tag-within k left (heads.Text n) rest x z e = refl
tag-within k left (heads.Array n) rest x z e = refl
tag-within k left (heads.Map n) rest x z e = refl
tag-within k left (heads.Tag n) rest x z e = absurd (cc)
tag-within k left (heads.Simple n) rest x z e = refl
tag-within k left (heads.Float w n) rest x z e = refl

tag-flat : (left : ℕ) (h : Head) (rest : List ℕ) (x : Tree × List ℕ) → behind None left h rest ≡ Ok x → None ≡ tag_argument h
tag-flat left (heads.Unsigned n) rest x e = refl
tag-flat left (heads.Negative n) rest x e = refl
tag-flat left (heads.Bytes n) rest x e = refl
tag-flat left (heads.Text n) rest x e = refl
tag-flat left (heads.Array n) rest x e = refl
tag-flat left (heads.Map n) rest x e = refl
tag-flat left (heads.Tag n) rest x e = absurd (cc)
tag-flat left (heads.Simple n) rest x e = refl
tag-flat left (heads.Float w n) rest x e = refl

no-tag-whole : (f : Part) (h : Head) (body : List ℕ) → None ≡ tag_argument h → None ≡ option_map tagged_whole (tag_after f (Ok (h, body)))
no-tag-whole f (heads.Unsigned n) body z = refl
no-tag-whole f (heads.Negative n) body z = refl
no-tag-whole f (heads.Bytes n) body z = refl
no-tag-whole f (heads.Text n) body z = refl
no-tag-whole f (heads.Array n) body z = refl
no-tag-whole f (heads.Map n) body z = refl
no-tag-whole f (heads.Tag n) body z = absurd (cc)
no-tag-whole f (heads.Simple n) body z = refl
no-tag-whole f (heads.Float w n) body z = refl

no-tag-front : (d : ℕ) (p : Part) (x : Tree × List ℕ) (h : Head) (body : List ℕ) → item_at d p.bytes ≡ Ok x → head_at (front p x.1).bytes ≡ Ok (h, body) → None ≡ tag_argument h → None ≡ partial_tag (partial_item_at d p)
no-tag-front d p x h body i own_head a = no-tag-whole (front p x.1) h body a ∙ (ap (λ (y : Result (Head × List ℕ) CborKind). option_map tagged_whole (tag_after (front p x.1) y)) (sym own_head) ∙ ap partial_tag (sym (partial-whole d p x i)))

no-tag-at : (k : ℕ) (p : Part) (h : Head) (rest : List ℕ) → suc k ≤ 32 → AreBytes p.bytes → head_at p.bytes ≡ Ok (h, rest) → None ≡ tag_number h → None ≡ partial_tag (partial_item_at (suc k) p)
no-tag-at k p h rest m are hd z = elim (item_at (suc k) p.bytes) as (λ r. item_at (suc k) p.bytes ≡ r → None ≡ partial_tag (partial_item_at (suc k) p)) [
  | Ok x ↦ λ i.
      let w = whole-head (suc k) p x m are i in
      let same : w.h ≡ h = first-same (w.h, w.body ++ x.1) (h, rest) (sym w.all ∙ hd) in
      let a : None ≡ tag_argument h = tag-within k (length p.bytes) h rest x z (sym (ap (behind_head (Some (item_at k)) (length p.bytes)) hd) ∙ (sym (item-deep k p.bytes) ∙ i)) in
      no-tag-front (suc k) p x w.h w.body i w.own_fault (subst (λ (y : Head). None ≡ tag_argument y) (sym same) a)
  | Err s ↦ λ i. no-tag-cut k (partial_item_at k) p s.kind h rest z ∙ (ap (λ (y : Result (Head × List ℕ) CborKind). partial_tag (unfinished k (partial_item_at k) p s.kind y)) (sym hd) ∙ ap partial_tag (sym (partial-cut k p s i)))
] refl

pub no-tag : (d : ℕ) (p : Part) (h : Head) (k : ℕ) (q : Part) → d ≤ 32 → AreBytes p.bytes → Some (h, (k, q)) ≡ head_and_body d p → None ≡ tag_number h → None ≡ partial_tag (partial_item_at d p)
no-tag d p h k q m are e z =
    let b = begins d p h k q e in
    no-tag-at k p h b.rest (subst (λ (y : ℕ). y ≤ 32) b.deeper m) are b.head z ∙ ap (λ (y : ℕ). partial_tag (partial_item_at y p)) (sym b.deeper)

pub tag-closed : (d : ℕ) (p : Part) → d ≤ 32 → AreBytes p.bytes → None ≡ head_and_body d p → None ≡ partial_tag (partial_item_at d p)
tag-closed zero p m are e = elim (item_at 0 p.bytes) as (λ r. item_at 0 p.bytes ≡ r → None ≡ partial_tag (partial_item_at 0 p)) [
  | Ok x ↦ λ i.
      let w = whole-head 0 p x m are i in
      no-tag-front 0 p x w.h w.body i w.own_fault (tag-flat (length p.bytes) w.h (w.body ++ x.1) x (sym (ap (behind_head None (length p.bytes)) w.all) ∙ (sym (item-flat p.bytes) ∙ i)))
  | Err s ↦ λ i. ap partial_tag (sym (partial-flat p s i))
] refl
tag-closed (suc k) p m are e =
    let o = opened-none k p (head_at p.bytes) e in
    let s : Stop = record { kind = o.0; left = length p.bytes } in
    let i : item_at (suc k) p.bytes ≡ Err s = item-deep k p.bytes ∙ ap (behind_head (Some (item_at k)) (length p.bytes)) o.1 in
    ap (λ (y : Result (Head × List ℕ) CborKind). partial_tag (unfinished k (partial_item_at k) p s.kind y)) (sym o.1) ∙ ap partial_tag (sym (partial-cut k p s i))
