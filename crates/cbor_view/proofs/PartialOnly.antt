-- Only one partial item stands in a file.
use Rattle.std.proofs.Common.{◌≡◌, ℕ, zero, suc, ◌+◌, ◌<◌, ◌^◌, List, [], ◌∷◌, ◌++◌, length, true, nat_lt, Some, None, Result, Ok, Err, refl, sym, ap, ◌∙◌, subst, arith, inl, inr}
use Rattle.std.proofs.lemmas.Bool.Decides.{nat_tests}
use Rattle.cbor_view.specs.declared.cbor_kind.CborKind.{CborKind}
use Rattle.cbor_view.specs.declared.cbor_fault.CborFault.{CborFault}
use Rattle.cbor_view.specs.declared.stop.Stop.{Stop}
use Rattle.cbor_view.specs.declared.heads.Head.{Head}
use Rattle.cbor_view.specs.declared.heads.Head.TheVariants as heads
use Rattle.cbor_view.specs.Tree.{Tree}
use Rattle.cbor_view.specs.Reading.{head_at, items_at, pairs_at, item_at}
use Rattle.cbor_view.specs.Parts.{Part, body_of}
use Rattle.cbor_view.specs.PartialItem.{PartialItem, whole, in_array, in_map, in_value, in_tag, broken, front, item_first, pair_first, whole_run, own_fault, unfinished, unfinished_map, partial_item_at, whole_in}
use Rattle.cbor_view.specs.PartialSpelling.{StandsFirst, StandInRow, HeadAndParts, MapAndParts, keys_and_values, IsUnfinished, Stands}
use Rattle.cbor_view.proofs.HeadReading.{HeadOf, typed-again}
use Rattle.cbor_view.proofs.ItemReading.{item-again}
use Rattle.cbor_view.proofs.PartialFaults.{partial-flat, partial-cut, partial-whole, first-some, first-none, run-some, run-none}
use Rattle.cbor_view.proofs.PartialParts.{front-is, body-is}
use Rattle.cbor_view.proofs.FaultsRead.{IsRefused, wrong-stops}
use Rattle.cbor_view.proofs.FaultsDue.{deep-started, items-first, items-later, pairs-key, pairs-value, pairs-later}
use Rattle.cbor_view.proofs.FirstFaultLaws.{same-rank, same-fault}

abbrev read : {A : Type 0} → A → List ℕ → Result (A × List ℕ) Stop
read x rest = Ok (x, rest)

-- ---- what is whole

record Firsts (d : ℕ) (file p mid : Part) : Type 0 where
  tree : Tree
  is_read : item_at d file.bytes ≡ read tree mid.bytes
  front_is : front file mid.bytes ≡ p
  some : item_first d file ≡ Some (p, mid)

distinct_texts : (d inside : ℕ) (file p mid : Part) → inside + d ≡ 32 → StandsFirst inside file p mid → Firsts d file p mid
distinct_texts d inside file p mid room s =
    let e : item_at d file.bytes ≡ read s.tree mid.bytes = ap (item_at d) s.bytes ∙ item-again s.tree d p.bytes mid.bytes s.spelled (let n = s.nesting in omega arith) in
    let f : front file mid.bytes ≡ p = front-is file p.bytes mid.bytes s.bytes ∙ ap (λ (m : ℕ). record { at = m; bytes = p.bytes }) (sym s.place) in
    let b : body_of file mid.bytes ≡ mid = body-is file p.bytes mid.bytes s.bytes ∙ ap (λ (m : ℕ). record { at = m; bytes = mid.bytes }) (sym s.next) in
    record {
      tree = s.tree;
      is_read = e;
      front_is = f;
      some = first-some d file (s.tree, mid.bytes) e ∙ (ap (λ (q : Part). Some (q, body_of file mid.bytes)) f ∙ ap (λ (q : Part). Some (p, q)) b);
    }

record RunsTo (d n : ℕ) (file : Part) (parts : List Part) (after : Part) (s : Stop) : Type 0 where
  run_is : whole_run (item_first d) n file ≡ (parts, after)
  fails : items_at (item_at d) n file.bytes ≡ Err s

items-run : (ps : List Part) (d inside n : ℕ) (file after : Part) (s : Stop) → inside + d ≡ 32 → StandInRow inside ps after file → length ps < n → item_at d after.bytes ≡ Err s → RunsTo d n file ps after s
items-run ps d inside zero file after s room row l e = absurd (omega arith)
items-run [] d inside (suc n) file after s room row l e =
    let here : RunsTo d (suc n) after [] after s = record { run_is = run-none (item_first d) n after (first-none d after s e); fails = items-first (item_at d) (suc n) after.bytes s e (omega arith) } in
    subst (λ (f : Part). RunsTo d (suc n) f [] after s) row here
items-run (p ∷ ps) d inside (suc n) file after s room row l e =
    let f = distinct_texts d inside file p row.mid room row.first in
    let r = items-run ps d inside n row.mid after s room row.others (omega arith) e in
    let put : List Part × Part → List Part × Part = λ w. (p ∷ w.0, w.1) in
    record {
      run_is = run-some (item_first d) n file (p, row.mid) f.some ∙ ap put r.run_is;
      fails = items-later (item_at d) n file.bytes row.mid.bytes f.tree s f.is_read r.fails;
    }

record PairsTo (d n : ℕ) (file : Part) (entries : List (Part × Part)) (after : Part) (s : Stop) : Type 0 where
  run_is : whole_run (pair_first d) n file ≡ (entries, after)
  fails : pairs_at (item_at d) n file.bytes ≡ Err s

pair-firsts : (d : ℕ) (file mid after k v : Part) → item_first d file ≡ Some (k, mid) → item_first d mid ≡ Some (v, after) → pair_first d file ≡ Some ((k, v), after)
pair-firsts d file mid after k v e f = rw e (rw f refl)

-- where the row ends no pair is whole
record NoPair (d : ℕ) (after : Part) (s : Stop) : Type 0 where
  none_is : pair_first d after ≡ None
  fails : (n : ℕ) → 0 < n → pairs_at (item_at d) n after.bytes ≡ Err s

pairs-run : (es : List (Part × Part)) (d inside n : ℕ) (file after : Part) (s : Stop) → inside + d ≡ 32 → StandInRow inside (keys_and_values es) after file → length es < n → NoPair d after s → PairsTo d n file es after s
pairs-run es d inside zero file after s room row l e = absurd (omega arith)
pairs-run [] d inside (suc n) file after s room row l e =
    let here : PairsTo d (suc n) after [] after s = record { run_is = run-none (pair_first d) n after e.none_is; fails = e.fails (suc n) (omega arith) } in
    subst (λ (f : Part). PairsTo d (suc n) f [] after s) row here
pairs-run (entry ∷ es) d inside (suc n) file after s room row l e =
    let k = distinct_texts d inside file entry.0 row.mid room row.first in
    let v = distinct_texts d inside row.mid entry.1 row.others.mid room row.others.first in
    let r = pairs-run es d inside n row.others.mid after s room row.others.others (omega arith) e in
    let put : List (Part × Part) × Part → List (Part × Part) × Part = λ w. (entry ∷ w.0, w.1) in
    record {
      run_is = run-some (pair_first d) n file (entry, row.others.mid) (pair-firsts d file row.mid row.others.mid entry.0 entry.1 k.some v.some) ∙ ap put r.run_is;
      fails = pairs-later (item_at d) n file.bytes row.mid.bytes row.others.mid.bytes k.tree v.tree s k.is_read v.is_read r.fails;
    }

no-key : (d : ℕ) (p : Part) → item_first d p ≡ None → pair_first d p ≡ None
no-key d p e = rw e refl

no-value : (d : ℕ) (p k mid : Part) → item_first d p ≡ Some (k, mid) → item_first d mid ≡ None → pair_first d p ≡ None
no-value d p k mid e f = rw e (rw f refl)

no-pair-key : (d : ℕ) (p : Part) (s : Stop) → item_at d p.bytes ≡ Err s → NoPair d p s
no-pair-key d p s e = record { none_is = no-key d p (first-none d p s e); fails = λ n l. pairs-key (item_at d) n p.bytes s e l }

no-pair-value : (d inside : ℕ) (p k mid : Part) (s : Stop) → inside + d ≡ 32 → StandsFirst inside p k mid → item_at d mid.bytes ≡ Err s → NoPair d p s
no-pair-value d inside p k mid s room first e =
    let f = distinct_texts d inside p k mid room first in
    record { none_is = no-value d p k mid f.some (first-none d mid s e); fails = λ n l. pairs-value (item_at d) n p.bytes mid.bytes f.tree s f.is_read e l }

-- the last of a row
record RowEnds (inside : ℕ) (ps : List Part) (q after file : Part) : Type 0 where
  mid : Part
  row : StandInRow inside ps mid file
  last : StandsFirst inside mid q after

row-split : (inside : ℕ) (ps : List Part) (q after file : Part) → StandInRow inside (ps ++ (q ∷ [])) after file → RowEnds inside ps q after file
row-split inside [] q after file row = record { mid = file; row = refl; last = subst (λ (f : Part). StandsFirst inside file q f) (sym row.others) row.first }
row-split inside (p ∷ ps) q after file row =
    let r = row-split inside ps q after row.mid row.others in
    record { mid = r.mid; row = record { mid = row.mid; first = row.first; others = r.row }; last = r.last }

-- ---- what isn't

record IsCut (d : ℕ) (p : Part) : Type 0 where
  s : Stop
  fault : item_at d p.bytes ≡ Err s

is-cut : (g : PartialItem) (d : ℕ) (p : Part) → partial_item_at d p ≡ g → IsUnfinished g → IsCut d p
is-cut g d p e u = elim (item_at d p.bytes) as (λ r. item_at d p.bytes ≡ r → IsCut d p) [
  | Ok x ↦ λ i. let w : Some (front p x.1) ≡ None = ap whole_in (sym (partial-whole d p x i)) ∙ (ap whole_in e ∙ u) in absurd (cc)
  | Err s ↦ λ i. record { s = s; fault = i }
] refl

refused-cut : (d : ℕ) (one : Part → PartialItem) (p : Part) (kind : CborKind) (r : Result (Head × List ℕ) CborKind) → IsRefused (suc d) r → unfinished d one p kind r ≡ own_fault p kind
refused-cut d one p kind (Err k) o = refl
refused-cut d one p kind (Ok (heads.Unsigned n, rest)) o = refl
refused-cut d one p kind (Ok (heads.Negative n, rest)) o = refl
refused-cut d one p kind (Ok (heads.Bytes n, rest)) o = refl
refused-cut d one p kind (Ok (heads.Text n, rest)) o = refl
refused-cut d one p kind (Ok (heads.Simple n, rest)) o = refl
refused-cut d one p kind (Ok (heads.Float w n, rest)) o = refl
refused-cut d one p kind (Ok (heads.Tag n, rest)) o = absurd (omega arith)
refused-cut d one p kind (Ok (heads.Array n, rest)) (inl z) = absurd (omega arith)
refused-cut d one p kind (Ok (heads.Array n, rest)) (inr t) = rw t refl
refused-cut d one p kind (Ok (heads.Map n, rest)) (inl z) = absurd (omega arith)
refused-cut d one p kind (Ok (heads.Map n, rest)) (inr t) = rw t refl

told-own : (d : ℕ) (p : Part) (s : Stop) → item_at d p.bytes ≡ Err s → IsRefused d (head_at p.bytes) → partial_item_at d p ≡ own_fault p s.kind
told-own zero p s e o = partial-flat p s e
told-own (suc d) p s e o = partial-cut d p s e ∙ refused-cut d (partial_item_at d) p s.kind (head_at p.bytes) o

only-broken : (fault : CborFault) (d inside : ℕ) (p : Part) → inside + d ≡ 32 → Stands (broken fault) inside p → partial_item_at d p ≡ broken fault
only-broken fault d inside p room s =
    let w = wrong-stops fault.kind inside d p.bytes room s.1.wrong in
    let k : w.told ≡ fault.kind = same-rank w.told fault.kind w.counts (s.1.first w.told w.wrong) in
    told-own d p (record { kind = w.told; left = length p.bytes }) w.stopped w.refused ∙ ap (λ (f : CborFault). broken f) (same-fault (record { kind = w.told; at = p.at }) fault k (sym s.0))

-- ---- after a head

body-same : (p body : Part) (head : List ℕ) → p.bytes ≡ head ++ body.bytes → body.at ≡ p.at + length head → body_of p body.bytes ≡ body
body-same p body head w e = body-is p head body.bytes w ∙ ap (λ (m : ℕ). record { at = m; bytes = body.bytes }) (sym e)

head-read : (p : Part) (front rest : List ℕ) (h : Head) → p.bytes ≡ front ++ rest → HeadOf h front → head_at p.bytes ≡ Ok (h, rest)
head-read p front rest h w is = ap head_at w ∙ typed-again h front rest is

only-array : (at n d inside : ℕ) (items : List Part) (next : PartialItem) (Next : Part → Type 0) (p : Part) → suc inside + d ≡ 32 → at ≡ p.at → n < 2 ^ 32 → length items < n → IsUnfinished next → (h : HeadAndParts inside 4 n items Next p) → partial_item_at d h.after ≡ next → partial_item_at (suc d) p ≡ in_array at n items next
only-array at n d inside items next Next p room place short fewer u h e =
    let t : nat_lt n (2 ^ 32) ≡ true = grind (arith, nat_tests) in
    let c = is-cut next d h.after e u in
    let r = items-run items d (suc inside) n h.body h.after c.s room h.row fewer c.fault in
    let b : body_of p h.body.bytes ≡ h.body = body-same p h.body h.head h.bytes h.place in
    let fault : item_at (suc d) p.bytes ≡ Err c.s = ap (item_at (suc d)) h.bytes ∙ (deep-started d (heads.Array n) h.head h.body.bytes h.spelled ∙ rw t (rw r.fails refl)) in
    let run : whole_run (item_first d) n (body_of p h.body.bytes) ≡ (items, h.after) = ap (whole_run (item_first d) n) b ∙ r.run_is in
    partial-cut d p c.s fault
    ∙ (ap (unfinished d (partial_item_at d) p c.s.kind) (head-read p h.head h.body.bytes (heads.Array n) h.bytes h.spelled)
    ∙ rw t (rw run (ap (λ (g : PartialItem). in_array p.at n items g) e ∙ ap (λ (m : ℕ). in_array m n items next) (sym place))))

map-cut : (n d inside : ℕ) (entries : List (Part × Part)) (end : Part) (p body : Part) (head : List ℕ) (s : Stop) → suc inside + d ≡ 32 → n < 2 ^ 32 → length entries < n → HeadOf (heads.Map n) head → p.bytes ≡ head ++ body.bytes → body.at ≡ p.at + length head → StandInRow (suc inside) (keys_and_values entries) end body → NoPair d end s → partial_item_at (suc d) p ≡ unfinished_map d (partial_item_at d) p.at (entries, end)
map-cut n d inside entries end p body head s room short fewer is w place row none =
    let t : nat_lt n (2 ^ 32) ≡ true = grind (arith, nat_tests) in
    let r = pairs-run entries d (suc inside) n body end s room row fewer none in
    let fault : item_at (suc d) p.bytes ≡ Err s = ap (item_at (suc d)) w ∙ (deep-started d (heads.Map n) head body.bytes is ∙ rw t (rw r.fails refl)) in
    let run : whole_run (pair_first d) n (body_of p body.bytes) ≡ (entries, end) = ap (whole_run (pair_first d) n) (body-same p body head w place) ∙ r.run_is in
    partial-cut d p s fault
    ∙ (ap (unfinished d (partial_item_at d) p s.kind) (head-read p head body.bytes (heads.Map n) w is)
    ∙ rw t (ap (unfinished_map d (partial_item_at d) p.at) run))

only-map : (at d inside : ℕ) (entries : List (Part × Part)) (key : PartialItem) (Next : Part → Type 0) (p : Part) → suc inside + d ≡ 32 → at ≡ p.at → IsUnfinished key → (m : MapAndParts inside entries (keys_and_values entries) Next p) → partial_item_at d m.stands.after ≡ key → partial_item_at (suc d) p ≡ in_map at entries key
only-map at d inside entries key Next p room place u m e =
    let h = m.stands in
    let c = is-cut key d h.after e u in
    map-cut m.n d inside entries h.after p h.body h.head c.s room m.limit m.fewer h.spelled h.bytes h.place h.row (no-pair-key d h.after c.s c.fault)
    ∙ rw (first-none d h.after c.s c.fault) (ap (λ (g : PartialItem). in_map p.at entries g) e ∙ ap (λ (k : ℕ). in_map k entries key) (sym place))

only-value : (at d inside : ℕ) (entries : List (Part × Part)) (key : Part) (value : PartialItem) (Next : Part → Type 0) (p : Part) → suc inside + d ≡ 32 → at ≡ p.at → IsUnfinished value → (m : MapAndParts inside entries (keys_and_values entries ++ (key ∷ [])) Next p) → partial_item_at d m.stands.after ≡ value → partial_item_at (suc d) p ≡ in_value at entries key value
only-value at d inside entries key value Next p room place u m e =
    let h = m.stands in
    let c = is-cut value d h.after e u in
    let r = row-split (suc inside) (keys_and_values entries) key h.after h.body h.row in
    let k = distinct_texts d (suc inside) r.mid key h.after room r.last in
    map-cut m.n d inside entries r.mid p h.body h.head c.s room m.limit m.fewer h.spelled h.bytes h.place r.row (no-pair-value d (suc inside) r.mid key h.after c.s room r.last c.fault)
    ∙ rw k.some (ap (λ (g : PartialItem). in_value p.at entries key g) e ∙ ap (λ (k : ℕ). in_value k entries key value) (sym place))

only-tag : (at n d inside : ℕ) (inner : PartialItem) (Next : Part → Type 0) (p : Part) → suc inside + d ≡ 32 → at ≡ p.at → IsUnfinished inner → (h : HeadAndParts inside 6 n [] Next p) → partial_item_at d h.after ≡ inner → partial_item_at (suc d) p ≡ in_tag at n inner
only-tag at n d inside inner Next p room place u h e =
    let c = is-cut inner d h.after e u in
    let under : item_at d h.body.bytes ≡ Err c.s = subst (λ (q : Part). item_at d q.bytes ≡ Err c.s) h.row c.fault in
    let fault : item_at (suc d) p.bytes ≡ Err c.s = ap (item_at (suc d)) h.bytes ∙ (deep-started d (heads.Tag n) h.head h.body.bytes h.spelled ∙ rw under refl) in
    let b : body_of p h.body.bytes ≡ h.after = body-same p h.body h.head h.bytes h.place ∙ sym h.row in
    partial-cut d p c.s fault
    ∙ (ap (unfinished d (partial_item_at d) p c.s.kind) (head-read p h.head h.body.bytes (heads.Tag n) h.bytes h.spelled)
    ∙ (ap (λ (q : Part). in_tag p.at n (partial_item_at d q)) b ∙ (ap (λ (g : PartialItem). in_tag p.at n g) e ∙ ap (λ (k : ℕ). in_tag k n inner) (sym place))))

-- ---- all levels

only : (g : PartialItem) (d inside : ℕ) (p : Part) → inside + d ≡ 32 → Stands g inside p → partial_item_at d p ≡ g
only (whole q) d inside p room s = let f = distinct_texts d inside p q s.0 room s.1 in partial-whole d p (f.tree, s.0.bytes) f.is_read ∙ ap (λ (x : Part). whole x) f.front_is
only (broken fault) d inside p room s = only-broken fault d inside p room s
only (in_array at n items next) zero inside p room s = let l = s.4.nesting in absurd (omega arith)
only (in_array at n items next) (suc d) inside p room s = only-array at n d inside items next (Stands next (suc inside)) p (omega arith) s.0 s.1 s.2 s.3 s.4 (only next d (suc inside) s.4.after (omega arith) s.4.next)
only (in_map at entries key) zero inside p room s = let l = s.2.stands.nesting in absurd (omega arith)
only (in_map at entries key) (suc d) inside p room s = only-map at d inside entries key (Stands key (suc inside)) p (omega arith) s.0 s.1 s.2 (only key d (suc inside) s.2.stands.after (omega arith) s.2.stands.next)
only (in_value at entries key value) zero inside p room s = let l = s.2.stands.nesting in absurd (omega arith)
only (in_value at entries key value) (suc d) inside p room s = only-value at d inside entries key value (Stands value (suc inside)) p (omega arith) s.0 s.1 s.2 (only value d (suc inside) s.2.stands.after (omega arith) s.2.stands.next)
only (in_tag at n inner) zero inside p room s = let l = s.2.nesting in absurd (omega arith)
only (in_tag at n inner) (suc d) inside p room s = only-tag at n d inside inner (Stands inner (suc inside)) p (omega arith) s.0 s.1 s.2 (only inner d (suc inside) s.2.after (omega arith) s.2.next)

pub front-only : (bytes : List ℕ) (item : PartialItem) → Stands item 0 (record { at = 0; bytes = bytes }) → item ≡ partial_item_at 32 (record { at = 0; bytes = bytes })
front-only bytes item s = sym (only item 32 0 (record { at = 0; bytes = bytes }) refl s)
