-- The shortest spelling spells, and no spelling has fewer bytes.
use Rattle.std.proofs.Common.{◌≡◌, ◌⊎◌, ℕ, suc, ◌<◌, ◌≤◌, ◌^◌, if◌then◌else◌, List, ◌++◌, length, true, false, nat_lt, refl, ap, ◌∙◌, arith, inl, inr}
use Rattle.std.specs.Prelude.{flat_map}
use Rattle.std.proofs.lemmas.Bool.{ltb-true, ltb-false}
use Rattle.std.proofs.lemmas.Bool.Decides.{nat_tests}
use Rattle.std.proofs.lemmas.List.{append_assoc, length-append}
use Rattle.cbor_view.specs.Tree.{Tree, Unsigned, Negative, Bytes, Text, Array, Map, Tag, Simple, Float, Trees, none, more, Pairs, no_pair, pair, count, pair_count}
use Rattle.cbor_view.specs.Spelling.{Form, Within, One, Two, Four, Eight, limit, argument, IsHead, Spelled, AllSpelled, PairsSpelled, Fits, AllFit, PairsFit}
use Rattle.cbor_view.specs.Shortest.{shortest_form, shortest_head, shortest, shortest_of_all, shortest_of_pairs, simple_bytes, float_bytes}

-- ---- heads

form-holds : (n : ℕ) → n < 2 ^ 64 → n < limit (shortest_form n)
form-holds n h = elim (nat_lt n 24) as (λ b. nat_lt n 24 ≡ b → n < limit (if b then Within else (if nat_lt n (2 ^ 8) then One else (if nat_lt n (2 ^ 16) then Two else (if nat_lt n (2 ^ 32) then Four else Eight))))) [
  | true ↦ λ e. ltb-true n 24 e
  | false ↦ λ e. elim (nat_lt n (2 ^ 8)) as (λ b. nat_lt n (2 ^ 8) ≡ b → n < limit (if b then One else (if nat_lt n (2 ^ 16) then Two else (if nat_lt n (2 ^ 32) then Four else Eight)))) [
    | true ↦ λ e. ltb-true n (2 ^ 8) e
    | false ↦ λ e. elim (nat_lt n (2 ^ 16)) as (λ b. nat_lt n (2 ^ 16) ≡ b → n < limit (if b then Two else (if nat_lt n (2 ^ 32) then Four else Eight))) [
      | true ↦ λ e. ltb-true n (2 ^ 16) e
      | false ↦ λ e. elim (nat_lt n (2 ^ 32)) as (λ b. nat_lt n (2 ^ 32) ≡ b → n < limit (if b then Four else Eight)) [
        | true ↦ λ e. ltb-true n (2 ^ 32) e
        | false ↦ λ e. h
      ] refl
    ] refl
  ] refl
] refl

pub head-spelled : (major n : ℕ) → n < 2 ^ 64 → IsHead major n (shortest_head major n)
head-spelled major n h = record { form = shortest_form n; holds = form-holds n h; spelled = refl }

-- ---- trees

all-count : (ts : Trees) → length (shortest_of_all ts) ≡ count ts
all-count none = refl
all-count (more t ts) = ap suc (all-count ts)

pairs-count : (ps : Pairs) → length (shortest_of_pairs ps) ≡ pair_count ps
pairs-count no_pair = refl
pairs-count (pair k v ps) = ap suc (pairs-count ps)

below_all : (n : ℕ) → n < 2 ^ 32 → n < 2 ^ 64
below_all n h = omega arith

simple-spelled : (n : ℕ) → (n < 24) ⊎ ((32 ≤ n) × (n < 2 ^ 8)) → Spelled (Simple n) (simple_bytes n)
simple-spelled n (inl h) = let t : nat_lt n 24 ≡ true = grind (arith, nat_tests) in inl (h, rw t refl)
simple-spelled n (inr h) = let t : nat_lt n 24 ≡ false = grind (arith, nat_tests) in inr (h.0, h.1, rw t refl)

float-spelled : (w n : ℕ) → Fits (Float w n) → Spelled (Float w n) (float_bytes w n)
float-spelled w n (inl h) = inl (h.0, h.1, rw h.0 refl)
float-spelled w n (inr (inl h)) = inr (inl (h.0, h.1, rw h.0 refl))
float-spelled w n (inr (inr h)) = inr (inr (h.0, h.1, rw h.0 refl))

mutual
  pub shortest-spelled : (t : Tree) → Fits t → Spelled t (shortest t)
  shortest-spelled (Unsigned n) f = head-spelled 0 n f
  shortest-spelled (Negative n) f = head-spelled 1 n f
  shortest-spelled (Bytes b) f = (f, record { front = shortest_head 2 (length b); rest = b; first = head-spelled 2 (length b) (below_all (length b) f); second = refl; whole = refl })
  shortest-spelled (Text b) f = (f.0, f.1, record { front = shortest_head 3 (length b); rest = b; first = head-spelled 3 (length b) (below_all (length b) f.0); second = refl; whole = refl })
  shortest-spelled (Array ts) f = (
    f.0,
    record {
      front = shortest_head 4 (count ts);
      rest = flat_map (λ part. part) (shortest_of_all ts);
      first = head-spelled 4 (count ts) (below_all (count ts) f.0);
      second = all-shortest ts f.1;
      whole = ap (λ n. shortest_head 4 n ++ flat_map (λ part. part) (shortest_of_all ts)) (all-count ts);
    },
  )
  shortest-spelled (Map ps) f = (
    f.0,
    record {
      front = shortest_head 5 (pair_count ps);
      rest = flat_map (λ entry. entry.0 ++ entry.1) (shortest_of_pairs ps);
      first = head-spelled 5 (pair_count ps) (below_all (pair_count ps) f.0);
      second = pairs-shortest ps f.1;
      whole = ap (λ n. shortest_head 5 n ++ flat_map (λ entry. entry.0 ++ entry.1) (shortest_of_pairs ps)) (pairs-count ps);
    },
  )
  shortest-spelled (Tag n t) f = record { front = shortest_head 6 n; rest = shortest t; first = head-spelled 6 n f.0; second = shortest-spelled t f.1; whole = refl }
  shortest-spelled (Simple n) f = simple-spelled n f
  shortest-spelled (Float w n) f = float-spelled w n f

  all-shortest : (ts : Trees) → AllFit ts → AllSpelled ts (flat_map (λ part. part) (shortest_of_all ts))
  all-shortest none f = refl
  all-shortest (more t ts) f = record { front = shortest t; rest = flat_map (λ part. part) (shortest_of_all ts); first = shortest-spelled t f.0; second = all-shortest ts f.1; whole = refl }

  pairs-shortest : (ps : Pairs) → PairsFit ps → PairsSpelled ps (flat_map (λ entry. entry.0 ++ entry.1) (shortest_of_pairs ps))
  pairs-shortest no_pair f = refl
  pairs-shortest (pair k v ps) f =
      let others = flat_map (λ entry. entry.0 ++ entry.1) (shortest_of_pairs ps) in
      record {
        front = shortest k;
        rest = shortest v ++ others;
        first = shortest-spelled k f.0;
        second = record { front = shortest v; rest = others; first = shortest-spelled v f.1; second = pairs-shortest ps f.2; whole = refl };
        whole = append_assoc (shortest k) (shortest v) others;
      }

-- ---- no spelling has fewer bytes

abbrev extra : Form → ℕ
extra Within = 0
extra One = 1
extra Two = 2
extra Four = 4
extra Eight = 8

extra-length : (form : Form) (n : ℕ) → length (argument form n) ≡ extra form
extra-length Within n = refl
extra-length One n = refl
extra-length Two n = refl
extra-length Four n = refl
extra-length Eight n = refl

-- what holds of each form that may be the shortest
form-cases : (n : ℕ) (P : Form → Type 0) → (n < 24 → P Within) → (24 ≤ n → n < 2 ^ 8 → P One) → (2 ^ 8 ≤ n → n < 2 ^ 16 → P Two) → (2 ^ 16 ≤ n → n < 2 ^ 32 → P Four) → (2 ^ 32 ≤ n → P Eight) → P (shortest_form n)
form-cases n P a b c d e = elim (nat_lt n 24) as (λ t. nat_lt n 24 ≡ t → P (if t then Within else (if nat_lt n (2 ^ 8) then One else (if nat_lt n (2 ^ 16) then Two else (if nat_lt n (2 ^ 32) then Four else Eight))))) [
  | true ↦ λ h. a (ltb-true n 24 h)
  | false ↦ λ h. elim (nat_lt n (2 ^ 8)) as (λ t. nat_lt n (2 ^ 8) ≡ t → P (if t then One else (if nat_lt n (2 ^ 16) then Two else (if nat_lt n (2 ^ 32) then Four else Eight)))) [
    | true ↦ λ k. b (ltb-false n 24 h) (ltb-true n (2 ^ 8) k)
    | false ↦ λ k. elim (nat_lt n (2 ^ 16)) as (λ t. nat_lt n (2 ^ 16) ≡ t → P (if t then Two else (if nat_lt n (2 ^ 32) then Four else Eight))) [
      | true ↦ λ l. c (ltb-false n (2 ^ 8) k) (ltb-true n (2 ^ 16) l)
      | false ↦ λ l. elim (nat_lt n (2 ^ 32)) as (λ t. nat_lt n (2 ^ 32) ≡ t → P (if t then Four else Eight)) [
        | true ↦ λ m. d (ltb-false n (2 ^ 16) l) (ltb-true n (2 ^ 32) m)
        | false ↦ λ m. e (ltb-false n (2 ^ 32) m)
      ] refl
    ] refl
  ] refl
] refl

form-least : (form : Form) (n : ℕ) → n < limit form → extra (shortest_form n) ≤ extra form
form-least Within n h = form-cases n (λ f. extra f ≤ 0) (λ a. omega arith) (λ a b. absurd (omega arith)) (λ a b. absurd (omega arith)) (λ a b. absurd (omega arith)) (λ a. absurd (omega arith))
form-least One n h = form-cases n (λ f. extra f ≤ 1) (λ a. omega arith) (λ a b. omega arith) (λ a b. absurd (omega arith)) (λ a b. absurd (omega arith)) (λ a. absurd (omega arith))
form-least Two n h = form-cases n (λ f. extra f ≤ 2) (λ a. omega arith) (λ a b. omega arith) (λ a b. omega arith) (λ a b. absurd (omega arith)) (λ a. absurd (omega arith))
form-least Four n h = form-cases n (λ f. extra f ≤ 4) (λ a. omega arith) (λ a b. omega arith) (λ a b. omega arith) (λ a b. omega arith) (λ a. absurd (omega arith))
form-least Eight n h = form-cases n (λ f. extra f ≤ 8) (λ a. omega arith) (λ a b. omega arith) (λ a b. omega arith) (λ a b. omega arith) (λ a. omega arith)

limit-least : (form : Form) (n : ℕ) → n < limit form → n < 2 ^ 64
limit-least Within n h = omega arith
limit-least One n h = omega arith
limit-least Two n h = omega arith
limit-least Four n h = omega arith
limit-least Eight n h = h

-- a tree's number fits, and the shortest head has no more bytes
record HeadLeast (major n : ℕ) (bytes : List ℕ) : Type 0 where
  fits : n < 2 ^ 64
  least : length (shortest_head major n) ≤ length bytes

head-least : (major n : ℕ) (bytes : List ℕ) → IsHead major n bytes → HeadLeast major n bytes
head-least major n bytes h =
    let own_fault : length bytes ≡ suc (extra h.form) = ap length h.spelled ∙ ap suc (extra-length h.form n) in
    let short : length (shortest_head major n) ≡ suc (extra (shortest_form n)) = ap suc (extra-length (shortest_form n) n) in
    record { fits = limit-least h.form n h.holds; least = omega (arith, own_fault, short, form-least h.form n h.holds) }

pub record IsLeast (t : Tree) (bytes : List ℕ) : Type 0 where
  pub fits : Fits t
  pub least : length (shortest t) ≤ length bytes

record AllLeast (ts : Trees) (bytes : List ℕ) : Type 0 where
  fits : AllFit ts
  least : length (flat_map (λ part. part) (shortest_of_all ts)) ≤ length bytes

record PairsLeast (ps : Pairs) (bytes : List ℕ) : Type 0 where
  fits : PairsFit ps
  least : length (flat_map (λ entry. entry.0 ++ entry.1) (shortest_of_pairs ps)) ≤ length bytes

-- a head and a body, each with no more bytes
joined-least : (a b front rest bytes : List ℕ) → bytes ≡ front ++ rest → length a ≤ length front → length b ≤ length rest → length (a ++ b) ≤ length bytes
joined-least a b front rest bytes w h k = omega (arith, ap length w, length-append a b, length-append front rest)

simple-least : (n : ℕ) (bytes : List ℕ) → Spelled (Simple n) bytes → IsLeast (Simple n) bytes
simple-least n bytes (inl h) = record { fits = inl h.0; least = let t : nat_lt n 24 ≡ true = grind (arith, nat_tests) in rw (h.1, t) (omega arith) }
simple-least n bytes (inr h) = record { fits = inr (h.0, h.1); least = let t : nat_lt n 24 ≡ false = grind (arith, nat_tests) in rw (h.2, t) (omega arith) }

float-least : (w n : ℕ) (bytes : List ℕ) → Spelled (Float w n) bytes → IsLeast (Float w n) bytes
float-least w n bytes (inl h) = record { fits = inl (h.0, h.1); least = rw (h.2, h.0) (omega arith) }
float-least w n bytes (inr (inl h)) = record { fits = inr (inl (h.0, h.1)); least = rw (h.2, h.0) (omega arith) }
float-least w n bytes (inr (inr h)) = record { fits = inr (inr (h.0, h.1)); least = rw (h.2, h.0) (omega arith) }

mutual
  pub shortest-least : (t : Tree) (bytes : List ℕ) → Spelled t bytes → IsLeast t bytes
  shortest-least (Unsigned n) bytes s = let h = head-least 0 n bytes s in record { fits = h.fits; least = h.least }
  shortest-least (Negative n) bytes s = let h = head-least 1 n bytes s in record { fits = h.fits; least = h.least }
  shortest-least (Bytes b) bytes s =
      let h = head-least 2 (length b) s.1.front s.1.first in
      record { fits = s.0; least = joined-least (shortest_head 2 (length b)) b s.1.front s.1.rest bytes s.1.whole h.least (let e = ap length s.1.second in omega arith) }
  shortest-least (Text b) bytes s =
      let h = head-least 3 (length b) s.2.front s.2.first in
      record { fits = (s.0, s.1); least = joined-least (shortest_head 3 (length b)) b s.2.front s.2.rest bytes s.2.whole h.least (let e = ap length s.2.second in omega arith) }
  shortest-least (Array ts) bytes s =
      let h = head-least 4 (count ts) s.1.front s.1.first in
      let a = all-least ts s.1.rest s.1.second in
      record { fits = (s.0, a.fits); least = rw (all-count ts) (joined-least (shortest_head 4 (count ts)) (flat_map (λ part. part) (shortest_of_all ts)) s.1.front s.1.rest bytes s.1.whole h.least a.least) }
  shortest-least (Map ps) bytes s =
      let h = head-least 5 (pair_count ps) s.1.front s.1.first in
      let a = pairs-least ps s.1.rest s.1.second in
      record { fits = (s.0, a.fits); least = rw (pairs-count ps) (joined-least (shortest_head 5 (pair_count ps)) (flat_map (λ entry. entry.0 ++ entry.1) (shortest_of_pairs ps)) s.1.front s.1.rest bytes s.1.whole h.least a.least) }
  shortest-least (Tag n t) bytes s =
      let h = head-least 6 n s.front s.first in
      let a = shortest-least t s.rest s.second in
      record { fits = (h.fits, a.fits); least = joined-least (shortest_head 6 n) (shortest t) s.front s.rest bytes s.whole h.least a.least }
  shortest-least (Simple n) bytes s = simple-least n bytes s
  shortest-least (Float w n) bytes s = float-least w n bytes s

  all-least : (ts : Trees) (bytes : List ℕ) → AllSpelled ts bytes → AllLeast ts bytes
  all-least none bytes s = record { fits = tt; least = omega arith }
  all-least (more t ts) bytes s =
      let a = shortest-least t s.front s.first in
      let b = all-least ts s.rest s.second in
      record { fits = (a.fits, b.fits); least = joined-least (shortest t) (flat_map (λ part. part) (shortest_of_all ts)) s.front s.rest bytes s.whole a.least b.least }

  pairs-least : (ps : Pairs) (bytes : List ℕ) → PairsSpelled ps bytes → PairsLeast ps bytes
  pairs-least no_pair bytes s = record { fits = tt; least = omega arith }
  pairs-least (pair k v ps) bytes s =
      let a = shortest-least k s.front s.first in
      let b = shortest-least v s.second.front s.second.first in
      let c = pairs-least ps s.second.rest s.second.second in
      let others = flat_map (λ entry. entry.0 ++ entry.1) (shortest_of_pairs ps) in
      let d = joined-least (shortest v) others s.second.front s.second.rest s.rest s.second.whole b.least c.least in
      record { fits = (a.fits, b.fits, c.fits); least = rw (append_assoc (shortest k) (shortest v) others) (joined-least (shortest k) (shortest v ++ others) s.front s.rest bytes s.whole a.least d) }
