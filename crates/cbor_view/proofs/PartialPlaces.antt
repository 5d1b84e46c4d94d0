-- The fault of a partial item stands at its head or after it.
use Rattle.std.proofs.Common.{◌≡◌, ℕ, zero, suc, ◌+◌, ◌-◌, ◌≤◌, ◌^◌, if◌then◌else◌, List, length, true, false, nat_lt, Option, Some, None, option_map, option_and_then, Result, Ok, Err, refl, sym, ap, subst, arith}
use Rattle.cbor_view.specs.declared.cbor_kind.CborKind.{CborKind}
use Rattle.cbor_view.specs.declared.cbor_fault.CborFault.{CborFault}
use Rattle.cbor_view.specs.declared.stop.Stop.{Stop}
use Rattle.cbor_view.specs.declared.heads.Head.{Head}
use Rattle.cbor_view.specs.declared.heads.Head.TheVariants as heads
use Rattle.cbor_view.specs.Tree.{Tree}
use Rattle.cbor_view.specs.Reading.{head_at, item_at}
use Rattle.cbor_view.specs.Parts.{Part, body_of}
use Rattle.cbor_view.specs.PartialItem.{PartialItem, front, split, item_first, value_first, pair_first, first_and_rest, whole_run, own_fault, unfinished, unfinished_array, unfinished_map, unfinished_entry, whole_or, partial_item_at, fault_in, place_in}
use Rattle.cbor_view.proofs.PartialFaults.{place-is}

-- what follows is further on
split-on : (p : Part) (r : Result (Tree × List ℕ) Stop) (s : Part × Part) → split p r ≡ Some s → p.at ≤ s.1.at
split-on p (Ok x) s e =
    let q : (front p x.1, body_of p x.1) ≡ s = cc in
    let f : Part × Part → ℕ = λ y. y.1.at in
    let k : p.at + (length p.bytes - length x.1) ≡ s.1.at = ap f q in
    omega arith
split-on p (Err z) s e = absurd (cc)

item-on : (d : ℕ) (p : Part) (s : Part × Part) → item_first d p ≡ Some s → p.at ≤ s.1.at
item-on d p s e = split-on p (item_at d p.bytes) s e

value-on : (d : ℕ) (k : Part × Part) (o : Option (Part × Part)) (s : (Part × Part) × Part) → item_first d k.1 ≡ o → option_map (λ v. ((k.0, v.0), v.1)) o ≡ Some s → k.1.at ≤ s.1.at
value-on d k None s i e = absurd (cc)
value-on d k (Some v) s i e =
    let q : ((k.0, v.0), v.1) ≡ s = cc in
    let f : (Part × Part) × Part → ℕ = λ y. y.1.at in
    let a : v.1.at ≡ s.1.at = ap f q in
    let b = item-on d k.1 v i in
    omega arith

pair-on-from : (d : ℕ) (p : Part) (o : Option (Part × Part)) (s : (Part × Part) × Part) → item_first d p ≡ o → option_and_then (value_first d) o ≡ Some s → p.at ≤ s.1.at
pair-on-from d p None s i e = absurd (cc)
pair-on-from d p (Some k) s i e =
    let a = item-on d p k i in
    let b = value-on d k (item_first d k.1) s refl e in
    omega arith

pair-on : (d : ℕ) (p : Part) (s : (Part × Part) × Part) → pair_first d p ≡ Some s → p.at ≤ s.1.at
pair-on d p s e = pair-on-from d p (item_first d p) s refl e

run-on : {A : Type 0} (first : Part → Option (A × Part)) → ((p : Part) (s : A × Part) → first p ≡ Some s → p.at ≤ s.1.at) → (n : ℕ) (p : Part) → p.at ≤ (whole_run first n p).1.at
unfolding whole_run
run-on first on zero p = omega arith
run-on first on (suc n) p = elim (first p) as (λ o. first p ≡ o → p.at ≤ (first_and_rest p o (whole_run first n)).1.at) [
  | None ↦ λ i. omega arith
  | Some s ↦ λ i. let a = on p s i in let b = run-on first on n s.1 in omega arith
] refl

-- ---- the fault

own-after : (p : Part) (kind : CborKind) (f : CborFault) → fault_in (own_fault p kind) ≡ Some f → p.at ≤ f.at
own-after p kind f e =
    let q : record { kind = kind; at = p.at } ≡ f = cc in
    let g : CborFault → ℕ = λ y. y.at in
    let k : p.at ≡ f.at = ap g q in
    omega arith

record After (d : ℕ) : Type 0 where
  each : (q : Part) (f : CborFault) → fault_in (partial_item_at d q) ≡ Some f → q.at ≤ f.at

body-after : (p : Part) (rest : List ℕ) → p.at ≤ (body_of p rest).at
body-after p rest = omega arith

entry-after : (d : ℕ) → After d → (at : ℕ) (es : List (Part × Part)) (q : Part) (o : Option (Part × Part)) (f : CborFault) → item_first d q ≡ o → fault_in (unfinished_entry (partial_item_at d) at es q o) ≡ Some f → q.at ≤ f.at
entry-after d h at es q None f i e = h.each q f e
entry-after d h at es q (Some k) f i e = let a = item-on d q k i in let b = h.each k.1 f e in omega arith

array-after : (d : ℕ) → After d → (p : Part) (n : ℕ) (rest : List ℕ) (f : CborFault) → fault_in (unfinished_array (partial_item_at d) p.at n (whole_run (item_first d) n (body_of p rest))) ≡ Some f → p.at ≤ f.at
array-after d h p n rest f e =
    let a = body-after p rest in
    let b = run-on (item_first d) (item-on d) n (body_of p rest) in
    let c = h.each (whole_run (item_first d) n (body_of p rest)).1 f e in
    omega arith

map-after : (d : ℕ) → After d → (p : Part) (n : ℕ) (rest : List ℕ) (f : CborFault) → fault_in (unfinished_map d (partial_item_at d) p.at (whole_run (pair_first d) n (body_of p rest))) ≡ Some f → p.at ≤ f.at
map-after d h p n rest f e =
    let w = whole_run (pair_first d) n (body_of p rest) in
    let a = body-after p rest in
    let b = run-on (pair_first d) (pair-on d) n (body_of p rest) in
    let c = entry-after d h p.at w.0 w.1 (item_first d w.1) f refl e in
    omega arith

cut-after : (d : ℕ) → After d → (p : Part) (kind : CborKind) (r : Result (Head × List ℕ) CborKind) (f : CborFault) → fault_in (unfinished d (partial_item_at d) p kind r) ≡ Some f → p.at ≤ f.at
cut-after d h p kind (Err z) f e = own-after p kind f e
cut-after d h p kind (Ok (heads.Unsigned n, rest)) f e = own-after p kind f e
cut-after d h p kind (Ok (heads.Negative n, rest)) f e = own-after p kind f e
cut-after d h p kind (Ok (heads.Bytes n, rest)) f e = own-after p kind f e
cut-after d h p kind (Ok (heads.Text n, rest)) f e = own-after p kind f e
cut-after d h p kind (Ok (heads.Array n, rest)) f e = elim (nat_lt n (2 ^ 32)) as (λ b. fault_in (if b then unfinished_array (partial_item_at d) p.at n (whole_run (item_first d) n (body_of p rest)) else own_fault p kind) ≡ Some f → p.at ≤ f.at) [
  | true ↦ λ k. array-after d h p n rest f k
  | false ↦ λ k. own-after p kind f k
] e
cut-after d h p kind (Ok (heads.Map n, rest)) f e = elim (nat_lt n (2 ^ 32)) as (λ b. fault_in (if b then unfinished_map d (partial_item_at d) p.at (whole_run (pair_first d) n (body_of p rest)) else own_fault p kind) ≡ Some f → p.at ≤ f.at) [
  | true ↦ λ k. map-after d h p n rest f k
  | false ↦ λ k. own-after p kind f k
] e
cut-after d h p kind (Ok (heads.Tag n, rest)) f e = let a = body-after p rest in let b = h.each (body_of p rest) f e in omega arith
cut-after d h p kind (Ok (heads.Simple n, rest)) f e = own-after p kind f e
cut-after d h p kind (Ok (heads.Float w n, rest)) f e = own-after p kind f e

seen-after : (p : Part) (other : CborKind → PartialItem) (r : Result (Tree × List ℕ) Stop) (f : CborFault) → ((kind : CborKind) → fault_in (other kind) ≡ Some f → p.at ≤ f.at) → fault_in (whole_or p other r) ≡ Some f → p.at ≤ f.at
seen-after p other (Ok x) f h e = absurd (cc)
seen-after p other (Err s) f h e = h s.kind e

after : (d : ℕ) → After d
unfolding partial_item_at
after zero = record { each = λ p f e. seen-after p (own_fault p) (item_at 0 p.bytes) f (λ kind k. own-after p kind f k) e }
after (suc d) = record { each = λ p f e. seen-after p (λ kind. unfinished d (partial_item_at d) p kind (head_at p.bytes)) (item_at (suc d) p.bytes) f (λ kind k. cut-after d (after d) p kind (head_at p.bytes) f k) e }

pub fault-after : (d : ℕ) (p : Part) (f : CborFault) → fault_in (partial_item_at d p) ≡ Some f → place_in (partial_item_at d p) ≤ f.at
fault-after d p f e = subst (λ (m : ℕ). m ≤ f.at) (sym (place-is d p)) ((after d).each p f e)
