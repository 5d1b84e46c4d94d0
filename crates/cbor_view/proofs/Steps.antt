-- The steps of the walk: what one arm of the code goes on with.
use Rattle.std.proofs.Common.{◌≡◌, ℕ, zero, suc, max, min, ◌-◌, ◌<◌, ◌≤◌, ◌^◌, ◌==◌, if◌then◌else◌, List, length, true, false, nat_lt, Some, None, Result, Ok, Err, refl, sym, ap, ◌∙◌, arith}
use Rattle.std.specs.Prelude.{IsUtf8}
use Rattle.std.specs.Str.{is_utf8}
use Rattle.std.proofs.lemmas.Str.{is_utf8-from_IsUtf8, IsUtf8-from_is_utf8}
use Rattle.std.proofs.lemmas.Bool.Decides.{nat_tests}
use Rattle.cbor_view.specs.declared.cbor_kind.CborKind.{CborKind}
use Rattle.cbor_view.specs.declared.cbor_kind.CborKind.TheVariants.{BadText, Deep, Length}
use Rattle.cbor_view.specs.declared.stop.Stop.{Stop}
use Rattle.cbor_view.specs.declared.heads.Head.{Head}
use Rattle.cbor_view.specs.declared.heads.Head.TheVariants as heads
use Rattle.cbor_view.specs.Tree.{Tree, Trees, Pairs, more, pair, Array, Map, Tag, levels, levels_of_all, levels_of_pairs}
use Rattle.cbor_view.specs.Reading.{◌>>=◌, Reader, head_at, items_at, pairs_at, item_at, inner, behind, behind_head, counted, deeper, below, levels_inside, left_at, levels_left, past, stop, string_at, text_at}

-- ---- one level

inner-zero : (d : ℕ) → (d == 0) ≡ true → inner d ≡ None
unfolding inner
inner-zero zero h = refl
inner-zero (suc d) h = absurd (grind (arith, nat_tests))

inner-suc : (d : ℕ) → (d == 0) ≡ false → inner d ≡ Some (item_at (d - 1))
unfolding inner
inner-suc zero h = absurd (grind (arith, nat_tests))
inner-suc (suc d) h = let e : d ≡ suc d - 1 = omega arith in ap (λ m. Some (item_at m)) e

deeper-below : {A : Type 0} (left d : ℕ) (parts : Reader Tree → Result A Stop) → deeper (inner d) left parts ≡ (below left d >>= λ k. parts (item_at k))
deeper-below left d parts = elim (d == 0) as (λ b. (d == 0) ≡ b → deeper (inner d) left parts ≡ ((if b then stop Deep left else Ok (d - 1)) >>= λ k. parts (item_at k))) [ true ↦ λ e. rw (inner-zero d e) refl | false ↦ λ e. rw (inner-suc d e) refl ] refl

counted-bind : {A B : Type 0} (left n : ℕ) (r : Result A Stop) (f : A → Result B Stop) → (counted left n r >>= f) ≡ counted left n (r >>= f)
counted-bind left n r f = elim (nat_lt n (2 ^ 32)) as (λ b. ((if b then r else stop Length left) >>= f) ≡ (if b then (r >>= f) else stop Length left)) [ true ↦ refl | false ↦ refl ]

opened : {A : Type 0} (left n d : ℕ) (parts : Reader Tree → Result A Stop) → counted left n (deeper (inner d) left parts) ≡ (levels_inside left n d >>= λ k. parts (item_at k))
opened left n d parts = rw (deeper-below left d parts) (sym (counted-bind left n (below left d) (λ k. parts (item_at k))))

-- the tree is forgotten at each step
past-bind : {A B : Type 0} (r : Result (A × List ℕ) Stop) (f : A × List ℕ → B) → past (r >>= λ x. Ok (f x, x.1)) ≡ past r
past-bind (Ok x) f = refl
past-bind (Err e) f = refl

pub item-inner : (d : ℕ) (bytes : List ℕ) → item_at d bytes ≡ behind_head (inner d) (length bytes) (head_at bytes)
unfolding item_at inner
item-inner zero bytes = refl
item-inner (suc d) bytes = refl

pub past-item : (d : ℕ) (bytes rest : List ℕ) (h : Head) → head_at bytes ≡ Ok (h, rest) → past (item_at d bytes) ≡ past (behind (inner d) (length bytes) h rest)
past-item d bytes rest h e = ap past (item-inner d bytes) ∙ ap (λ r. past (behind_head (inner d) (length bytes) r)) e

pub past-fault : (d : ℕ) (bytes : List ℕ) (kind : CborKind) → head_at bytes ≡ Err kind → past (item_at d bytes) ≡ Err (record { kind = kind; left = length bytes })
past-fault d bytes kind e = ap past (item-inner d bytes) ∙ ap (λ r. past (behind_head (inner d) (length bytes) r)) e

-- ---- the arms: an array, a map and a tag go on with their parts, one level deeper

nested-rest : {A : Type 0} (r : Result ℕ Stop) (parts : ℕ → Result (A × List ℕ) Stop) (tree : A × List ℕ → Tree) → past (r >>= λ k. parts k >>= λ x. Ok (tree x, x.1)) ≡ (r >>= λ k. past (parts k))
nested-rest (Ok k) parts tree = past-bind (parts k) tree
nested-rest (Err e) parts tree = refl

pub nested : {A : Type 0} (left n d : ℕ) (parts : Reader Tree → Result (A × List ℕ) Stop) (tree : A × List ℕ → Tree) → past (counted left n (deeper (inner d) left (λ one. parts one >>= λ x. Ok (tree x, x.1)))) ≡ (levels_inside left n d >>= λ k. past (parts (item_at k)))
nested left n d parts tree = ap past (opened left n d (λ one. parts one >>= λ x. Ok (tree x, x.1))) ∙ nested-rest (levels_inside left n d) (λ k. parts (item_at k)) tree

pub array-rest : (left n d : ℕ) (rest : List ℕ) (h : Head) (r : Result ℕ Stop) → h ≡ heads.Array n → r ≡ levels_inside left n d → past (behind (inner d) left h rest) ≡ (r >>= λ k. past (items_at (item_at k) n rest))
array-rest left n d rest h r is e = rw (is, e) (nested left n d (λ one. items_at one n rest) (λ ts. Array ts.0))

pub map-rest : (left n d : ℕ) (rest : List ℕ) (h : Head) (r : Result ℕ Stop) → h ≡ heads.Map n → r ≡ levels_inside left n d → past (behind (inner d) left h rest) ≡ (r >>= λ k. past (pairs_at (item_at k) n rest))
map-rest left n d rest h r is e = rw (is, e) (nested left n d (λ one. pairs_at one n rest) (λ ps. Map ps.0))

pub tag-rest : (left n d : ℕ) (rest : List ℕ) (h : Head) (r : Result ℕ Stop) → h ≡ heads.Tag n → r ≡ levels_inside left 1 d → past (behind (inner d) left h rest) ≡ (r >>= λ k. past (item_at k rest))
tag-rest left n d rest h r is e = rw (is, e) (nested left 1 d (λ one. one rest) (λ t. Tag n t.0))

pub text-good : (left n : ℕ) (rest : List ℕ) (s : List ℕ × List ℕ) → string_at left n rest ≡ Ok s → IsUtf8 s.0 → past (text_at left n rest) ≡ Ok s.1
text-good left n rest s e good = rw e (rw (is_utf8-from_IsUtf8 s.0 good) refl)

pub text-bad : (left n : ℕ) (rest : List ℕ) (s : List ℕ × List ℕ) → string_at left n rest ≡ Ok s → (IsUtf8 s.0 → ⊥) → past (text_at left n rest) ≡ Err (record { kind = BadText; left = left })
text-bad left n rest s e bad = rw e (elim (is_utf8 s.0) as (λ b. is_utf8 s.0 ≡ b → past (if b then Ok s else stop BadText left) ≡ Err (record { kind = BadText; left = left })) [ true ↦ λ t. absurd (bad (IsUtf8-from_is_utf8 s.0 t)) | false ↦ λ f. refl ] refl)

-- ---- the loops

pub first-of : (x : Result (Tree × List ℕ) Stop) (rest : List ℕ) → past x ≡ Ok rest → (t : Tree) × (x ≡ Ok (t, rest))
first-of (Ok x) rest e = (x.0, let q : x.1 ≡ rest = cc in ap (λ r. Ok (x.0, r)) q)
first-of (Err s) rest e = absurd (cc)

pub failed : {A : Type 0} (x : Result (A × List ℕ) Stop) (s : Stop) → past x ≡ Err s → x ≡ Err s
failed (Ok x) s e = absurd (cc)
failed (Err d) s e = cc

pub items-none : (one : Reader Tree) (n : ℕ) (bytes : List ℕ) → n ≤ 0 → past (items_at one n bytes) ≡ Ok bytes
unfolding items_at
items-none one zero bytes h = refl
items-none one (suc n) bytes h = absurd (omega arith)

pub items-ok : (one : Reader Tree) (n : ℕ) (bytes rest : List ℕ) → 0 < n → past (one bytes) ≡ Ok rest → past (items_at one (n - 1) rest) ≡ past (items_at one n bytes)
unfolding items_at
items-ok one zero bytes rest h e = absurd (omega arith)
items-ok one (suc n) bytes rest h e =
    let f = first-of (one bytes) rest e in
    let k : suc n - 1 ≡ n = omega arith in
    rw (k, f.1) (sym (past-bind (items_at one n rest) (λ ts. more f.0 ts.0)))

pub items-err : (one : Reader Tree) (n : ℕ) (bytes : List ℕ) (s : Stop) → 0 < n → past (one bytes) ≡ Err s → past (items_at one n bytes) ≡ Err s
unfolding items_at
items-err one zero bytes s h e = absurd (omega arith)
items-err one (suc n) bytes s h e = rw (failed (one bytes) s e) refl

pub pairs-none : (one : Reader Tree) (n : ℕ) (bytes : List ℕ) → n ≤ 0 → past (pairs_at one n bytes) ≡ Ok bytes
unfolding pairs_at
pairs-none one zero bytes h = refl
pairs-none one (suc n) bytes h = absurd (omega arith)

pub pairs-ok : (one : Reader Tree) (n : ℕ) (bytes value rest : List ℕ) → 0 < n → past (one bytes) ≡ Ok value → past (one value) ≡ Ok rest → past (pairs_at one (n - 1) rest) ≡ past (pairs_at one n bytes)
unfolding pairs_at
pairs-ok one zero bytes value rest h e d = absurd (omega arith)
pairs-ok one (suc n) bytes value rest h e d =
    let f = first-of (one bytes) value e in
    let g = first-of (one value) rest d in
    let k : suc n - 1 ≡ n = omega arith in
    rw (k, f.1) (rw g.1 (sym (past-bind (pairs_at one n rest) (λ ps. pair f.0 g.0 ps.0))))

pub pairs-err_key : (one : Reader Tree) (n : ℕ) (bytes : List ℕ) (s : Stop) → 0 < n → past (one bytes) ≡ Err s → past (pairs_at one n bytes) ≡ Err s
unfolding pairs_at
pairs-err_key one zero bytes s h e = absurd (omega arith)
pairs-err_key one (suc n) bytes s h e = rw (failed (one bytes) s e) refl

pub pairs-err_value : (one : Reader Tree) (n : ℕ) (bytes value : List ℕ) (s : Stop) → 0 < n → past (one bytes) ≡ Ok value → past (one value) ≡ Err s → past (pairs_at one n bytes) ≡ Err s
unfolding pairs_at
pairs-err_value one zero bytes value s h e d = absurd (omega arith)
pairs-err_value one (suc n) bytes value s h e d = let f = first-of (one bytes) value e in rw f.1 (rw (failed (one value) s d) refl)

pub inner-positive : (d : ℕ) → 0 < d → inner d ≡ Some (item_at (d - 1))
inner-positive d h = inner-suc d (grind (arith, nat_tests))

-- ---- the fewest levels that were left

left-deeper : (most before inside depth : ℕ) → inside ≡ most - 1 → left_at most before (suc depth) ≡ left_at inside (min before inside) depth
left-deeper most before inside zero e = omega (arith, e)
left-deeper most before inside (suc depth) e = omega (arith, e)

left-join : (most before a b : ℕ) → left_at most (left_at most before a) b ≡ left_at most before (max a b)
left-join most before zero b = let e : b ≡ max 0 b = omega arith in ap (left_at most before) e
left-join most before (suc a) zero = let e : suc a ≡ max (suc a) 0 = omega arith in ap (left_at most before) e
left-join most before (suc a) (suc b) =
    let e : suc (max a b) ≡ max (suc a) (suc b) = omega arith in
    let m : min (min before (most - suc a)) (most - suc b) ≡ min before (most - suc (max a b)) = omega arith in
    m ∙ ap (left_at most before) e

levels-bind : {A : Type 0} (r : Result (A × List ℕ) Stop) (tree : A → Tree) (depth : A → ℕ) (most before inside : ℕ) → inside ≡ most - 1 → ((x : A) → levels (tree x) ≡ suc (depth x)) →
    levels_left levels most before (r >>= λ x. Ok (tree x.0, x.1)) ≡ levels_left depth inside (min before inside) r
levels-bind (Ok x) tree depth most before inside e is = ap (left_at most before) (is x.0) ∙ left-deeper most before inside (depth x.0) e
levels-bind (Err s) tree depth most before inside e is = refl

pub inside-is : (left n d k : ℕ) → Ok k ≡ levels_inside left n d → k ≡ d - 1
inside-is left n d k e = elim (nat_lt n (2 ^ 32)) as (λ b. ◌≡◌ {A = Result ℕ Stop} (Ok k) (if b then below left d else stop Length left) → k ≡ d - 1) [
  | true ↦ λ f. elim (d == 0) as (λ b. ◌≡◌ {A = Result ℕ Stop} (Ok k) (if b then stop Deep left else Ok (d - 1)) → k ≡ d - 1) [ true ↦ λ g. absurd (cc) | false ↦ λ g. cc ] f
  | false ↦ λ f. absurd (cc)
] e

nested-left : {A : Type 0} (left n d before k : ℕ) (parts : Reader Tree → Result (A × List ℕ) Stop) (tree : A → Tree) (depth : A → ℕ) → Ok k ≡ levels_inside left n d → ((x : A) → levels (tree x) ≡ suc (depth x)) →
    levels_left levels d before (counted left n (deeper (inner d) left (λ one. parts one >>= λ x. Ok (tree x.0, x.1)))) ≡ levels_left depth k (min before k) (parts (item_at k))
nested-left left n d before k parts tree depth e is =
    ap (levels_left levels d before) (opened left n d (λ one. parts one >>= λ x. Ok (tree x.0, x.1)) ∙ ap (λ (r : Result ℕ Stop). r >>= λ m. parts (item_at m) >>= λ x. Ok (tree x.0, x.1)) (sym e))
    ∙ levels-bind (parts (item_at k)) tree depth d before k (inside-is left n d k e) is

pub array-left : (left n d before k : ℕ) (rest : List ℕ) (h : Head) → h ≡ heads.Array n → Ok k ≡ levels_inside left n d → levels_left levels d before (behind (inner d) left h rest) ≡ levels_left levels_of_all k (min before k) (items_at (item_at k) n rest)
array-left left n d before k rest h is e = rw is (nested-left left n d before k (λ one. items_at one n rest) (λ ts. Array ts) levels_of_all e (λ ts. refl))

pub map-left : (left n d before k : ℕ) (rest : List ℕ) (h : Head) → h ≡ heads.Map n → Ok k ≡ levels_inside left n d → levels_left levels d before (behind (inner d) left h rest) ≡ levels_left levels_of_pairs k (min before k) (pairs_at (item_at k) n rest)
map-left left n d before k rest h is e = rw is (nested-left left n d before k (λ one. pairs_at one n rest) (λ ps. Map ps) levels_of_pairs e (λ ps. refl))

pub tag-left : (left n d before k : ℕ) (rest : List ℕ) (h : Head) → h ≡ heads.Tag n → Ok k ≡ levels_inside left 1 d → levels_left levels d before (behind (inner d) left h rest) ≡ levels_left levels k (min before k) (item_at k rest)
tag-left left n d before k rest h is e = rw is (nested-left left 1 d before k (λ one. one rest) (λ t. Tag n t) levels e (λ t. refl))

items-joined : (d before : ℕ) (t : Tree) (r : Result (Trees × List ℕ) Stop) → levels_left levels_of_all d (left_at d before (levels t)) r ≡ levels_left levels_of_all d before (r >>= λ ts. Ok (more t ts.0, ts.1))
items-joined d before t (Ok x) = left-join d before (levels t) (levels_of_all x.0)
items-joined d before t (Err s) = refl

pub items-left : (one : Reader Tree) (n d before after : ℕ) (bytes rest : List ℕ) → 0 < n → past (one bytes) ≡ Ok rest → after ≡ levels_left levels d before (one bytes) → levels_left levels_of_all d after (items_at one (n - 1) rest) ≡ levels_left levels_of_all d before (items_at one n bytes)
unfolding items_at
items-left one zero d before after bytes rest h e a = absurd (omega arith)
items-left one (suc n) d before after bytes rest h e a =
    let f = first-of (one bytes) rest e in
    let k : suc n - 1 ≡ n = omega arith in
    let b : after ≡ left_at d before (levels f.0) = a ∙ ap (levels_left levels d before) f.1 in
    rw (k, f.1) (ap (λ (m : ℕ). levels_left levels_of_all d m (items_at one n rest)) b ∙ items-joined d before f.0 (items_at one n rest))

pub items-left-none : (one : Reader Tree) (n d before : ℕ) (bytes : List ℕ) → n ≤ 0 → before ≡ levels_left levels_of_all d before (items_at one n bytes)
unfolding items_at
items-left-none one zero d before bytes h = refl
items-left-none one (suc n) d before bytes h = absurd (omega arith)

pairs-joined : (d before : ℕ) (k v : Tree) (r : Result (Pairs × List ℕ) Stop) → levels_left levels_of_pairs d (left_at d (left_at d before (levels k)) (levels v)) r ≡ levels_left levels_of_pairs d before (r >>= λ ps. Ok (pair k v ps.0, ps.1))
pairs-joined d before k v (Ok x) = left-join d (left_at d before (levels k)) (levels v) (levels_of_pairs x.0) ∙ left-join d before (levels k) (max (levels v) (levels_of_pairs x.0))
pairs-joined d before k v (Err s) = refl

pub pairs-left : (one : Reader Tree) (n d before between after : ℕ) (bytes value rest : List ℕ) → 0 < n → past (one bytes) ≡ Ok value → past (one value) ≡ Ok rest → between ≡ levels_left levels d before (one bytes) → after ≡ levels_left levels d between (one value) → levels_left levels_of_pairs d after (pairs_at one (n - 1) rest) ≡ levels_left levels_of_pairs d before (pairs_at one n bytes)
unfolding pairs_at
pairs-left one zero d before between after bytes value rest h e e2 a a2 = absurd (omega arith)
pairs-left one (suc n) d before between after bytes value rest h e e2 a a2 =
    let f = first-of (one bytes) value e in
    let g = first-of (one value) rest e2 in
    let k : suc n - 1 ≡ n = omega arith in
    let b : between ≡ left_at d before (levels f.0) = a ∙ ap (levels_left levels d before) f.1 in
    let c : after ≡ left_at d (left_at d before (levels f.0)) (levels g.0) = a2 ∙ ap (levels_left levels d between) g.1 ∙ ap (λ (m : ℕ). left_at d m (levels g.0)) b in
    rw (k, f.1) (rw g.1 (ap (λ (m : ℕ). levels_left levels_of_pairs d m (pairs_at one n rest)) c ∙ pairs-joined d before f.0 g.0 (pairs_at one n rest)))

pub pairs-left-none : (one : Reader Tree) (n d before : ℕ) (bytes : List ℕ) → n ≤ 0 → before ≡ levels_left levels_of_pairs d before (pairs_at one n bytes)
unfolding pairs_at
pairs-left-none one zero d before bytes h = refl
pairs-left-none one (suc n) d before bytes h = absurd (omega arith)

pub levels-item : (d before : ℕ) (bytes rest : List ℕ) (h : Head) → head_at bytes ≡ Ok (h, rest) → levels_left levels d before (item_at d bytes) ≡ levels_left levels d before (behind (inner d) (length bytes) h rest)
levels-item d before bytes rest h e = ap (levels_left levels d before) (item-inner d bytes) ∙ ap (λ r. levels_left levels d before (behind_head (inner d) (length bytes) r)) e
