-- What stops a reading where an item is due stops the reading of all the bytes.
use Rattle.std.proofs.Common.{◌≡◌, ℕ, zero, suc, ◌+◌, ◌*◌, ◌<◌, ◌≤◌, ◌^◌, List, ◌++◌, length, true, nat_lt, Some, Result, Ok, Err, refl, sym, ap, ◌∙◌, subst, arith}
use Rattle.std.proofs.lemmas.Bool.Decides.{nat_tests}
use Rattle.std.proofs.lemmas.List.{append_assoc}
use Rattle.std.proofs.Math.Nat.{le-max_left, le-max_right}
use Rattle.cbor_view.specs.declared.stop.Stop.{Stop}
use Rattle.cbor_view.specs.declared.heads.Head.{Head}
use Rattle.cbor_view.specs.declared.heads.Head.TheVariants as heads
use Rattle.cbor_view.specs.Tree.{Tree, Trees, none, more, count, levels, levels_of_all}
use Rattle.cbor_view.specs.Spelling.{IsHead, Spelled, AllSpelled}
use Rattle.cbor_view.specs.Reading.{Reader, items_at, pairs_at, item_at, behind, behind_head}
use Rattle.cbor_view.specs.FirstFault.{Announces, items, pairs, tagged, Begun, Due}
use Rattle.cbor_view.proofs.HeadReading.{HeadOf, typed-again}
use Rattle.cbor_view.proofs.ItemReading.{item-again}
use Rattle.cbor_view.proofs.PartialFaults.{item-deep}

abbrev read : {A : Type 0} → A → List ℕ → Result (A × List ℕ) Stop
read x rest = Ok (x, rest)

-- ---- one level

pub deep-started : (d : ℕ) (h : Head) (front rest : List ℕ) → HeadOf h front → item_at (suc d) (front ++ rest) ≡ behind (Some (item_at d)) (length (front ++ rest)) h rest
deep-started d h front rest is = item-deep d (front ++ rest) ∙ ap (behind_head (Some (item_at d)) (length (front ++ rest))) (typed-again h front rest is)

pub items-first : (one : Reader Tree) (n : ℕ) (bytes : List ℕ) (s : Stop) → one bytes ≡ Err s → 0 < n → items_at one n bytes ≡ Err s
unfolding items_at
items-first one zero bytes s e h = absurd (omega arith)
items-first one (suc n) bytes s e h = rw e refl

pub items-later : (one : Reader Tree) (n : ℕ) (bytes mid : List ℕ) (t : Tree) (s : Stop) → one bytes ≡ read t mid → items_at one n mid ≡ Err s → items_at one (suc n) bytes ≡ Err s
unfolding items_at
items-later one n bytes mid t s e f = rw e (rw f refl)

pub pairs-key : (one : Reader Tree) (n : ℕ) (bytes : List ℕ) (s : Stop) → one bytes ≡ Err s → 0 < n → pairs_at one n bytes ≡ Err s
unfolding pairs_at
pairs-key one zero bytes s e h = absurd (omega arith)
pairs-key one (suc n) bytes s e h = rw e refl

pub pairs-value : (one : Reader Tree) (n : ℕ) (bytes mid : List ℕ) (t : Tree) (s : Stop) → one bytes ≡ read t mid → one mid ≡ Err s → 0 < n → pairs_at one n bytes ≡ Err s
unfolding pairs_at
pairs-value one zero bytes mid t s e f h = absurd (omega arith)
pairs-value one (suc n) bytes mid t s e f h = rw e (rw f refl)

pub pairs-later : (one : Reader Tree) (n : ℕ) (bytes mid after : List ℕ) (k v : Tree) (s : Stop) → one bytes ≡ read k mid → one mid ≡ read v after → pairs_at one n after ≡ Err s → pairs_at one (suc n) bytes ≡ Err s
unfolding pairs_at
pairs-later one n bytes mid after k v s e f g = rw e (rw f (rw g refl))

-- one whole item before others
item-front : (d : ℕ) (t : Tree) (bytes front behind rest : List ℕ) → Spelled t front → levels t ≤ d → bytes ≡ front ++ behind → item_at d (bytes ++ rest) ≡ read t (behind ++ rest)
item-front d t bytes front behind rest s l whole = ap (item_at d) (ap (λ x. x ++ rest) whole ∙ append_assoc front behind rest) ∙ item-again t d front (behind ++ rest) s l

items-stopped : (ts : Trees) (d n : ℕ) (front rest : List ℕ) (s : Stop) → AllSpelled ts front → levels_of_all ts ≤ d → count ts < n → item_at d rest ≡ Err s → items_at (item_at d) n (front ++ rest) ≡ Err s
items-stopped none d n front rest s is l h e = items-first (item_at d) n (front ++ rest) s (ap (λ x. item_at d (x ++ rest)) is ∙ e) h
items-stopped (more t ts) d zero front rest s is l h e = absurd (omega arith)
items-stopped (more t ts) d (suc n) front rest s is l h e =
    let a : levels t ≤ d = omega (arith, le-max_left (levels t) (levels_of_all ts)) in
    let b : levels_of_all ts ≤ d = omega (arith, le-max_right (levels t) (levels_of_all ts)) in
    items-later (item_at d) n (front ++ rest) (is.rest ++ rest) t s (item-front d t front is.front is.rest rest is.first a is.whole) (items-stopped ts d n is.rest rest s is.second b (omega arith) e)

pairs-stopped : (ts : Trees) (d m : ℕ) (front rest : List ℕ) (s : Stop) → AllSpelled ts front → levels_of_all ts ≤ d → count ts < 2 * m → item_at d rest ≡ Err s → pairs_at (item_at d) m (front ++ rest) ≡ Err s
pairs-stopped none d m front rest s is l h e = pairs-key (item_at d) m (front ++ rest) s (ap (λ x. item_at d (x ++ rest)) is ∙ e) (omega arith)
pairs-stopped (more k none) d m front rest s is l h e =
    let a : levels k ≤ d = omega arith in
    pairs-value (item_at d) m (front ++ rest) (is.rest ++ rest) k s (item-front d k front is.front is.rest rest is.first a is.whole) (ap (λ x. item_at d (x ++ rest)) is.second ∙ e) (omega arith)
pairs-stopped (more k (more v ts)) d zero front rest s is l h e = absurd (omega arith)
pairs-stopped (more k (more v ts)) d (suc m) front rest s is l h e =
    let a : levels k ≤ d = omega arith in
    let b : levels v ≤ d = omega arith in
    let c : levels_of_all ts ≤ d = omega arith in
    pairs-later (item_at d) m (front ++ rest) (is.rest ++ rest) (is.second.rest ++ rest) k v s
    (item-front d k front is.front is.rest rest is.first a is.whole)
    (item-front d v is.rest is.second.front is.second.rest rest is.second.first b is.second.whole)
    (pairs-stopped ts d m is.second.rest rest s is.second.second c (omega arith) e)

array-stopped : (ts : Trees) (d n : ℕ) (front parts rest : List ℕ) (s : Stop) → n < 2 ^ 32 → IsHead 4 n front → AllSpelled ts parts → levels_of_all ts ≤ d → count ts < n → item_at d rest ≡ Err s → item_at (suc d) (front ++ (parts ++ rest)) ≡ Err s
array-stopped ts d n front parts rest s short is all l h e =
    let t : nat_lt n (2 ^ 32) ≡ true = grind (arith, nat_tests) in
    deep-started d (heads.Array n) front (parts ++ rest) is ∙ rw t (rw (items-stopped ts d n parts rest s all l h e) refl)

map-stopped : (ts : Trees) (d m : ℕ) (front parts rest : List ℕ) (s : Stop) → m < 2 ^ 32 → IsHead 5 m front → AllSpelled ts parts → levels_of_all ts ≤ d → count ts < 2 * m → item_at d rest ≡ Err s → item_at (suc d) (front ++ (parts ++ rest)) ≡ Err s
map-stopped ts d m front parts rest s short is all l h e =
    let t : nat_lt m (2 ^ 32) ≡ true = grind (arith, nat_tests) in
    deep-started d (heads.Map m) front (parts ++ rest) is ∙ rw t (rw (pairs-stopped ts d m parts rest s all l h e) refl)

tag-stopped : (ts : Trees) (d n : ℕ) (front parts rest : List ℕ) (s : Stop) → IsHead 6 n front → AllSpelled ts parts → count ts < 1 → item_at d rest ≡ Err s → item_at (suc d) (front ++ (parts ++ rest)) ≡ Err s
tag-stopped none d n front parts rest s is all h e =
    let under : item_at d (parts ++ rest) ≡ Err s = ap (λ x. item_at d (x ++ rest)) all ∙ e in
    deep-started d (heads.Tag n) front (parts ++ rest) is ∙ rw under refl
tag-stopped (more t ts) d n front parts rest s is all h e = absurd (omega arith)

announced-stopped : (ts : Trees) (d n : ℕ) (front parts rest : List ℕ) (s : Stop) → Announces n front → AllSpelled ts parts → levels_of_all ts ≤ d → count ts < n → item_at d rest ≡ Err s → item_at (suc d) (front ++ (parts ++ rest)) ≡ Err s
announced-stopped ts d n front parts rest s (items short is) all l h e = array-stopped ts d n front parts rest s short is all l h e
announced-stopped ts d n front parts rest s (pairs m short q is) all l h e = map-stopped ts d m front parts rest s short is all l (omega arith) e
announced-stopped ts d n front parts rest s (tagged number q is) all l h e = tag-stopped ts d number front parts rest s is all (omega arith) e

begun-stopped : (inside d : ℕ) (bytes rest : List ℕ) (s : Stop) → inside + suc d ≡ 32 → Begun inside bytes → item_at d rest ≡ Err s → item_at (suc d) (bytes ++ rest) ≡ Err s
begun-stopped inside d bytes rest s k b e =
    let l = b.nesting in
    ap (item_at (suc d)) (ap (λ x. x ++ rest) b.spelled.whole ∙ append_assoc b.spelled.front b.spelled.rest rest)
    ∙ announced-stopped b.there d b.announced b.spelled.front b.spelled.rest rest s b.spelled.first b.spelled.second (omega arith) b.fewer e

-- ---- all levels

pub due-stopped : (inside d : ℕ) (before rest : List ℕ) (s : Stop) → inside + d ≡ 32 → Due inside before → item_at d rest ≡ Err s → item_at 32 (before ++ rest) ≡ Err s
due-stopped zero d before rest s k due e = let q : 32 ≡ d = omega arith in subst (λ m. item_at m (before ++ rest) ≡ Err s) (sym q) (ap (λ x. item_at d (x ++ rest)) due ∙ e)
due-stopped (suc inside) d before rest s k due e =
    let j : inside + suc d ≡ 32 = omega arith in
    ap (item_at 32) (ap (λ x. x ++ rest) due.whole ∙ append_assoc due.front due.rest rest)
    ∙ due-stopped inside (suc d) due.front (due.rest ++ rest) s j due.first (begun-stopped inside d due.rest rest s j due.second e)

pub due-inside : (inside : ℕ) (before : List ℕ) → Due inside before → inside ≤ 32
due-inside zero before due = omega arith
due-inside (suc inside) before due = let l = due.second.nesting in omega arith
