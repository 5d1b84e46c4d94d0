-- What follows the head of an item that was read.
use Rattle.std.proofs.Common.{◌≡◌, ℕ, zero, suc, ◌+◌, ◌-◌, ◌≤◌, List, [], ◌++◌, length, take, drop, true, Result, Ok, Err, refl, sym, ap, ◌∙◌, subst, arith, IsOk, is_ok}
use Rattle.std.proofs.lemmas.List.{append-nil, length-append}
use Rattle.std.proofs.Math.Seq.{take-append_seam, drop-append_seam}
use Rattle.cbor_view.specs.declared.cbor_kind.CborKind.{CborKind}
use Rattle.cbor_view.specs.declared.cbor_fault.CborFault.{CborFault}
use Rattle.cbor_view.specs.declared.stop.Stop.{Stop}
use Rattle.cbor_view.specs.declared.heads.Head.{Head}
use Rattle.cbor_view.specs.declared.heads.Head.TheVariants as heads
use Rattle.cbor_view.specs.Tree.{Tree, Unsigned, Negative, Bytes, Text, Array, Map, Tag, Simple, Float, Trees, none, more, Pairs, no_pair, pair, count, pair_count, levels, levels_of_all, levels_of_pairs}
use Rattle.cbor_view.specs.Spelling.{Spelled, AllSpelled, PairsSpelled}
use Rattle.cbor_view.specs.Reading.{item_at, head_at, left_at, levels_left, past, reads, tree_of, tree_or_null, size, past_or_none}
use Rattle.cbor_view.specs.Parts.{trees_of, pairs_from, parts_at, entries_at}
use Rattle.cbor_view.specs.Opening.{are_items, are_pairs, Opens, EndsWith}
use Rattle.cbor_view.proofs.HeadReading.{AreBytes, HeadOf, typed-again, head-sound}
use Rattle.cbor_view.proofs.ItemReading.{item-again}
use Rattle.cbor_view.proofs.WholeReading.{spells-reads, reads-spells, reads-read}

-- ---- an item at the front of bytes

pub size-read : (bytes rest : List ℕ) (t : Tree) → item_at 32 bytes ≡ Ok (t, rest) → size bytes ≡ length bytes - length rest
unfolding size
size-read bytes rest t e = ap (past_or_none (length bytes)) e

tree-read : (bytes : List ℕ) (t : Tree) → reads bytes ≡ Ok t → tree_of bytes ≡ t
unfolding tree_of
tree-read bytes t e = ap tree_or_null e

pub record IsFirst (t : Tree) (front rest : List ℕ) : Type 0 where
  pub size_is : size (front ++ rest) ≡ length front
  pub front_is : take (size (front ++ rest)) (front ++ rest) ≡ front
  pub rest_is : drop (size (front ++ rest)) (front ++ rest) ≡ rest
  pub reads_is : reads front ≡ Ok t

pub is-first : (t : Tree) (front rest : List ℕ) → Spelled t front → levels t ≤ 32 → IsFirst t front rest
is-first t front rest s l =
    let e = size-read (front ++ rest) rest t (item-again t 32 front rest s l) in
    let n : size (front ++ rest) ≡ length front = omega (arith, e, length-append front rest) in
    record { size_is = n; front_is = rw n (take-append_seam front rest); rest_is = rw n (drop-append_seam front rest); reads_is = spells-reads front t (record { spelled = s; nesting = l }) }

record PartsAre (n : ℕ) (body : List ℕ) (at : ℕ) (ts : Trees) : Type 0 where
  trees : trees_of (parts_at n (record { at = at; bytes = body })) ≡ ts
  items : are_items n body ≡ true

more-parts : (t : Tree) (ts : Trees) (n at : ℕ) (front rest : List ℕ) → IsFirst t front rest → PartsAre n rest (at + size (front ++ rest)) ts → PartsAre (suc n) (front ++ rest) at (more t ts)
unfolding parts_at
more-parts t ts n at front rest f others = record {
  trees = rw (f.front_is, f.rest_is) (rw (tree-read front t f.reads_is, others.trees) refl);
  items = rw (f.front_is, f.rest_is) (rw (f.reads_is, others.items) refl);
}

no-parts : (body : List ℕ) (at : ℕ) → PartsAre 0 body at none
unfolding parts_at
no-parts body at = record { trees = refl; items = refl }

all-parts : (ts : Trees) (body : List ℕ) (at : ℕ) → AllSpelled ts body → levels_of_all ts ≤ 32 → PartsAre (count ts) body at ts
all-parts none body at s l = no-parts body at
all-parts (more t ts) body at s l =
    let a : levels t ≤ 32 = omega arith in
    let b : levels_of_all ts ≤ 32 = omega arith in
    subst (λ x. PartsAre (suc (count ts)) x at (more t ts)) (sym s.whole)
    (more-parts t ts (count ts) at s.front s.rest (is-first t s.front s.rest s.first a) (all-parts ts s.rest (at + size (s.front ++ s.rest)) s.second b))

record EntriesAre (n : ℕ) (body : List ℕ) (at : ℕ) (ps : Pairs) : Type 0 where
  trees : pairs_from (entries_at n (record { at = at; bytes = body })) ≡ ps
  items : are_pairs n body ≡ true

more-entries : (k v : Tree) (ps : Pairs) (n at : ℕ) (key value rest : List ℕ) → IsFirst k key (value ++ rest) → IsFirst v value rest → EntriesAre n rest (at + size (key ++ (value ++ rest)) + size (value ++ rest)) ps → EntriesAre (suc n) (key ++ (value ++ rest)) at (pair k v ps)
unfolding entries_at
more-entries k v ps n at key value rest f g others = record {
  trees = rw (f.front_is, f.rest_is) (rw (g.front_is, g.rest_is) (rw (tree-read key k f.reads_is, tree-read value v g.reads_is, others.trees) refl));
  items = rw (f.front_is, f.rest_is) (rw (g.front_is, g.rest_is) (rw (f.reads_is, g.reads_is, others.items) refl));
}

no-entries : (body : List ℕ) (at : ℕ) → EntriesAre 0 body at no_pair
unfolding entries_at
no-entries body at = record { trees = refl; items = refl }

all-entries : (ps : Pairs) (body : List ℕ) (at : ℕ) → PairsSpelled ps body → levels_of_pairs ps ≤ 32 → EntriesAre (pair_count ps) body at ps
all-entries no_pair body at s l = no-entries body at
all-entries (pair k v ps) body at s l =
    let a : levels k ≤ 32 = omega arith in
    let b : levels v ≤ 32 = omega arith in
    let c : levels_of_pairs ps ≤ 32 = omega arith in
    let whole : body ≡ s.front ++ (s.second.front ++ s.second.rest) = s.whole ∙ ap (λ x. s.front ++ x) s.second.whole in
    subst (λ x. EntriesAre (suc (pair_count ps)) x at (pair k v ps)) (sym whole)
    (more-entries k v ps (pair_count ps) at s.front s.second.front s.second.rest
    (is-first k s.front (s.second.front ++ s.second.rest) s.first a)
    (is-first v s.second.front s.second.rest s.second.first b)
    (all-entries ps s.second.rest (at + size (s.front ++ (s.second.front ++ s.second.rest)) + size (s.second.front ++ s.second.rest)) s.second.second c))

-- ---- what follows the head

pub record Splits (bytes : List ℕ) (h : Head) (body : List ℕ) (t : Tree) : Type 0 where
  pub head : head_at bytes ≡ Ok (h, body)
  pub opens : Opens h body t

splits : (bytes front body : List ℕ) (h : Head) (t : Tree) → bytes ≡ front ++ body → HeadOf h front → Opens h body t → Splits bytes h body t
splits bytes front body h t whole is o = record { head = ap head_at whole ∙ typed-again h front body is; opens = o }

pub record IsSplit (bytes : List ℕ) (t : Tree) : Type 0 where
  pub h : Head
  pub body : List ℕ
  pub splits : Splits bytes h body t

leaf : (bytes : List ℕ) (h : Head) (t : Tree) → HeadOf h bytes → Opens h [] t → IsSplit bytes t
leaf bytes h t is o = record { h = h; body = []; splits = splits bytes bytes [] h t (sym (append-nil bytes)) is o }

pub split-spelled : (t : Tree) (bytes : List ℕ) → Spelled t bytes → levels t ≤ 32 → IsSplit bytes t
split-spelled (Unsigned n) bytes s l = leaf bytes (heads.Unsigned n) (Unsigned n) s refl
split-spelled (Negative n) bytes s l = leaf bytes (heads.Negative n) (Negative n) s refl
split-spelled (Simple n) bytes s l = leaf bytes (heads.Simple n) (Simple n) s refl
split-spelled (Float w n) bytes s l = leaf bytes (heads.Float w n) (Float w n) s refl
split-spelled (Bytes b) bytes s l = record { h = heads.Bytes (length b); body = b; splits = splits bytes s.1.front b (heads.Bytes (length b)) (Bytes b) (s.1.whole ∙ ap (λ x. s.1.front ++ x) s.1.second) s.1.first refl }
split-spelled (Text b) bytes s l = record { h = heads.Text (length b); body = b; splits = splits bytes s.2.front b (heads.Text (length b)) (Text b) (s.2.whole ∙ ap (λ x. s.2.front ++ x) s.2.second) s.2.first (refl, s.1) }
split-spelled (Array ts) bytes s l =
    let p = all-parts ts s.1.rest 0 s.1.second (omega arith) in
    record { h = heads.Array (count ts); body = s.1.rest; splits = splits bytes s.1.front s.1.rest (heads.Array (count ts)) (Array ts) s.1.whole s.1.first (ap (λ x. Array x) (sym p.trees), p.items) }
split-spelled (Map ps) bytes s l =
    let p = all-entries ps s.1.rest 0 s.1.second (omega arith) in
    record { h = heads.Map (pair_count ps); body = s.1.rest; splits = splits bytes s.1.front s.1.rest (heads.Map (pair_count ps)) (Map ps) s.1.whole s.1.first (ap (λ x. Map x) (sym p.trees), p.items) }
split-spelled (Tag n t) bytes s l =
    let r = spells-reads s.rest t (record { spelled = s.second; nesting = omega arith }) in
    record { h = heads.Tag n; body = s.rest; splits = splits bytes s.front s.rest (heads.Tag n) (Tag n t) s.whole s.first (ap (λ x. Tag n x) (sym (tree-read s.rest t r)), ap is_ok r) }

ok-value : (r : Result Tree CborFault) → IsOk r → r ≡ Ok (tree_or_null r)
ok-value (Ok t) ok = refl
ok-value (Err e) ok = absurd (cc)

pub is-read : (bytes : List ℕ) → IsOk (reads bytes) → reads bytes ≡ Ok (tree_of bytes)
unfolding tree_of
is-read bytes ok = ok-value (reads bytes) ok

-- the levels that the walk over it leaves give its depth
left-of : (n : ℕ) → n ≤ 32 → 32 - left_at 32 32 n ≡ n
left-of zero l = refl
left-of (suc n) l = omega arith

left-most : (n : ℕ) → left_at 32 32 n ≤ 32
left-most zero = omega arith
left-most (suc n) = omega arith

pub record DepthIs (item : List ℕ) (fewest : ℕ) : Type 0 where
  pub within : fewest ≤ 32
  pub depth : 32 - fewest ≡ levels (tree_of item)

pub depth-read : (item : List ℕ) (fewest : ℕ) → AreBytes item → IsOk (reads item) → fewest ≡ levels_left levels 32 32 (item_at 32 item) → DepthIs item fewest
depth-read item fewest are ok e =
    let is = is-read item ok in
    let most = (reads-spells item (tree_of item) are is).nesting in
    let at : fewest ≡ left_at 32 32 (levels (tree_of item)) = e ∙ ap (levels_left levels 32 32) (reads-read item (tree_of item) is) in
    record { within = subst (λ (m : ℕ). m ≤ 32) (sym at) (left-most (levels (tree_of item))); depth = ap (λ (m : ℕ). 32 - m) at ∙ left-of (levels (tree_of item)) most }

pub depth-stops : (item : List ℕ) (s : Stop) → IsOk (reads item) → past (item_at 32 item) ≡ Err s → ⊥
depth-stops item s ok e = let r = ap past (reads-read item (tree_of item) (is-read item ok)) in cc

split-item : (bytes : List ℕ) → AreBytes bytes → IsOk (reads bytes) → IsSplit bytes (tree_of bytes)
split-item bytes are ok = let s = reads-spells bytes (tree_of bytes) are (is-read bytes ok) in split-spelled (tree_of bytes) bytes s.spelled s.nesting

pub split-opens : (bytes body : List ℕ) (h : Head) → AreBytes bytes → IsOk (reads bytes) → head_at bytes ≡ Ok (h, body) → Opens h body (tree_of bytes)
split-opens bytes body h are ok e =
    let s = split-item bytes are ok in
    let same : ◌≡◌ {A = Result (Head × List ℕ) CborKind} (Ok (s.h, s.body)) (Ok (h, body)) = sym s.splits.head ∙ e in
    let pair_same : (s.h, s.body) ≡ (h, body) = cc in
    let P : Head × List ℕ → Type 0 = λ x. Opens x.0 x.1 (tree_of bytes) in
    subst P pair_same s.splits.opens

pub split-fault : (bytes : List ℕ) (kind : CborKind) → AreBytes bytes → IsOk (reads bytes) → head_at bytes ≡ Err kind → ⊥
split-fault bytes kind are ok e = let s = (split-item bytes are ok).splits.head in cc

pub split-shorter : (bytes body : List ℕ) (h : Head) → AreBytes bytes → head_at bytes ≡ Ok (h, body) → length body ≤ length bytes
split-shorter bytes body h are e = let s = head-sound bytes body h are e in omega (arith, ap length s.whole, length-append s.front body)

pub split-end : (bytes body : List ℕ) (h : Head) → AreBytes bytes → head_at bytes ≡ Ok (h, body) → EndsWith bytes body
split-end bytes body h are e = let s = head-sound bytes body h are e in record { front = s.front; whole = s.whole }
