-- What a partial item tells of a file stands in it.
use Rattle.std.proofs.Common.{◌≡◌, ◌⊎◌, ℕ, zero, suc, ◌+◌, ◌<◌, ◌≤◌, ◌^◌, List, [], ◌∷◌, ◌++◌, length, true, false, nat_lt, Some, Result, Ok, Err, refl, sym, ap, ◌∙◌, subst, arith, inl, inr}
use Rattle.std.proofs.lemmas.Bool.{ltb-true}
use Rattle.std.proofs.lemmas.List.{length-append}
use Rattle.cbor_view.specs.declared.cbor_kind.CborKind.{CborKind}
use Rattle.cbor_view.specs.declared.cbor_kind.CborKind.TheVariants.{Length}
use Rattle.cbor_view.specs.declared.stop.Stop.{Stop}
use Rattle.cbor_view.specs.declared.heads.Head.{Head}
use Rattle.cbor_view.specs.declared.heads.Head.TheVariants as heads
use Rattle.cbor_view.specs.Tree.{Tree, Array, Map, Tag, more, pair}
use Rattle.cbor_view.specs.Spelling.{IsHead}
use Rattle.cbor_view.specs.Reading.{◌>>=◌, head_at, items_at, pairs_at, item_at, behind, behind_head, past, stop}
use Rattle.cbor_view.specs.Parts.{Part, body_of}
use Rattle.cbor_view.specs.PartialItem.{PartialItem, front, item_first, pair_first, whole_run, unfinished, unfinished_entry, partial_item_at}
use Rattle.cbor_view.specs.PartialSpelling.{StandsFirst, StandInRow, HeadAndParts, keys_and_values, IsFirstWrong, IsUnfinished, Stands}
use Rattle.cbor_view.specs.FirstFault.{IsWrong, rank}
use Rattle.cbor_view.proofs.HeadReading.{AreBytes, HeadOf, if-cases, head-sound}
use Rattle.cbor_view.proofs.ItemReading.{item-sound, bytes-after}
use Rattle.cbor_view.proofs.PartialFaults.{bind-err, item-deep, partial-flat, partial-cut, partial-whole, first-some, first-none, run-some, run-none, pair-some, pair-key-none, pair-value-none, ValueStops, view-none}
use Rattle.cbor_view.proofs.PartialParts.{front-is}
use Rattle.cbor_view.proofs.FaultsRead.{wrong-stops}
use Rattle.cbor_view.proofs.FaultsFound.{IsOwn, bind-fails, then_items, then_value, then_pairs, mid-bytes, bytes-wrong, text-wrong, count-wrong, kind-wrong, flat-own}

abbrev read : {A : Type 0} → A → List ℕ → Result (A × List ℕ) Stop
read x rest = Ok (x, rest)

-- ---- what is whole

first-stands : (d inside : ℕ) (p : Part) (x : Tree × List ℕ) → inside + d ≡ 32 → AreBytes p.bytes → item_at d p.bytes ≡ Ok x → StandsFirst inside p (front p x.1) (body_of p x.1)
first-stands d inside p x room are e =
    let s = (item-sound d).each p.bytes x.1 x.0 are e in
    subst (λ (q : Part). StandsFirst inside p q (body_of p x.1)) (sym (front-is p s.front x.1 s.whole)) (record {
      tree = x.0;
      spelled = s.spelled;
      nesting = let l = s.nesting in omega arith;
      bytes = s.whole;
      place = refl;
      next = omega (arith, ap length s.whole, length-append s.front x.1);
    })

record ItemsRow (d inside n : ℕ) (p : Part) (s : Stop) : Type 0 where
  parts : List Part
  next : Part
  run_is : whole_run (item_first d) n p ≡ (parts, next)
  row : StandInRow inside parts next p
  fewer : length parts < n
  are : AreBytes next.bytes
  fault : item_at d next.bytes ≡ Err s

items-row : (d inside n : ℕ) (p : Part) (s : Stop) → inside + d ≡ 32 → AreBytes p.bytes → items_at (item_at d) n p.bytes ≡ Err s → ItemsRow d inside n p s
unfolding items_at
items-row d inside zero p s room are e = absurd (cc)
items-row d inside (suc n) p s room are e = elim (bind-fails (item_at d p.bytes) (then_items d n) s e) [
  | inl k ↦ record { parts = []; next = p; run_is = run-none (item_first d) n p (first-none d p s k); row = refl; fewer = omega arith; are = are; fault = k }
  | inr k ↦
      let q : Part = body_of p k.value.1 in
      let r = items-row d inside n q s room (mid-bytes d p.bytes k.value.1 k.value.0 are k.before) (bind-err (items_at (item_at d) n k.value.1) (λ ts. more k.value.0 ts) s k.after) in
      let put : List Part × Part → List Part × Part = λ w. (front p k.value.1 ∷ w.0, w.1) in
      record {
        parts = front p k.value.1 ∷ r.parts;
        next = r.next;
        run_is = run-some (item_first d) n p (front p k.value.1, q) (first-some d p k.value k.before) ∙ ap put r.run_is;
        row = record { mid = q; first = first-stands d inside p k.value room are k.before; others = r.row };
        fewer = let l = r.fewer in omega arith;
        are = r.are;
        fault = r.fault;
      }
]

record PairsRow (d inside n : ℕ) (p : Part) (s : Stop) : Type 0 where
  entries : List (Part × Part)
  next : Part
  run_is : whole_run (pair_first d) n p ≡ (entries, next)
  row : StandInRow inside (keys_and_values entries) next p
  fewer : length entries < n
  are : AreBytes next.bytes
  fault : (item_at d next.bytes ≡ Err s) ⊎ ValueStops d s next

pairs-row : (d inside n : ℕ) (p : Part) (s : Stop) → inside + d ≡ 32 → AreBytes p.bytes → pairs_at (item_at d) n p.bytes ≡ Err s → PairsRow d inside n p s
unfolding pairs_at
pairs-row d inside zero p s room are e = absurd (cc)
pairs-row d inside (suc n) p s room are e = elim (bind-fails (item_at d p.bytes) (then_pairs d n) s e) [
  | inl k ↦ record { entries = []; next = p; run_is = run-none (pair_first d) n p (pair-key-none d p s k); row = refl; fewer = omega arith; are = are; fault = inl k }
  | inr k ↦
      let q : Part = body_of p k.value.1 in
      let mid = mid-bytes d p.bytes k.value.1 k.value.0 are k.before in
      elim (bind-fails (item_at d k.value.1) (then_value d n k.value.0) s k.after) [
        | inl v ↦ record { entries = []; next = p; run_is = run-none (pair_first d) n p (pair-value-none d p k.value s k.before v); row = refl; fewer = omega arith; are = are; fault = inr (record { key = k.value; read = k.before; fault = v }) }
        | inr v ↦
            let o : Part = body_of q v.value.1 in
            let r = pairs-row d inside n o s room (mid-bytes d k.value.1 v.value.1 v.value.0 mid v.before) (bind-err (pairs_at (item_at d) n v.value.1) (λ ps. pair k.value.0 v.value.0 ps) s v.after) in
            let entry : Part × Part = (front p k.value.1, front q v.value.1) in
            let put : List (Part × Part) × Part → List (Part × Part) × Part = λ w. (entry ∷ w.0, w.1) in
            record {
              entries = entry ∷ r.entries;
              next = r.next;
              run_is = run-some (pair_first d) n p (entry, o) (pair-some d p k.value v.value k.before v.before) ∙ ap put r.run_is;
              row = record { mid = q; first = first-stands d inside p k.value room are k.before; others = record { mid = o; first = first-stands d inside q v.value room mid v.before; others = r.row } };
              fewer = let l = r.fewer in omega arith;
              are = r.are;
              fault = r.fault;
            }
      ]
]

-- one more part after the others
row-ends : (inside : ℕ) (ps : List Part) (q mid after file : Part) → StandInRow inside ps mid file → StandsFirst inside mid q after → StandInRow inside (ps ++ (q ∷ [])) after file
row-ends inside [] q mid after file row s = record { mid = after; first = subst (λ (f : Part). StandsFirst inside f q after) row s; others = refl }
row-ends inside (p ∷ ps) q mid after file row s = record { mid = row.mid; first = row.first; others = row-ends inside ps q mid after row.mid row.others s }

-- ---- what isn't

cut-unfinished : (d : ℕ) (p : Part) (s : Stop) → AreBytes p.bytes → item_at d p.bytes ≡ Err s → IsUnfinished (partial_item_at d p)
cut-unfinished d p s are e = sym (view-none d p s are (ap past e))

pub headed : (inside major n : ℕ) (p : Part) (rest head : List ℕ) (parts : List Part) (Next : Part → Type 0) (after : Part) → inside < 32 → IsHead major n head → p.bytes ≡ head ++ rest → StandInRow (suc inside) parts after (body_of p rest) → Next after → HeadAndParts inside major n parts Next p
headed inside major n p rest head parts Next after less is w row next = record {
  head = head;
  body = body_of p rest;
  after = after;
  spelled = is;
  nesting = less;
  bytes = w;
  place = omega (arith, ap length w, length-append head rest);
  row = row;
  next = next;
}

-- none that counts before the fault that is reported
abbrev kind_in : Stop → CborKind
kind_in s = s.kind

record NoneBefore (inside : ℕ) (bytes : List ℕ) (s : Stop) : Type 0 where
  each : (other : CborKind) → IsWrong other inside bytes → rank s.kind ≤ rank other

none-before : (inside d : ℕ) (bytes : List ℕ) (s : Stop) → inside + d ≡ 32 → item_at d bytes ≡ Err s → NoneBefore inside bytes s
none-before inside d bytes s room e = record {
  each = λ other w.
      let t = wrong-stops other inside d bytes room w in
      let both : ◌≡◌ {A = Result (Tree × List ℕ) Stop} (Err (record { kind = t.told; left = length bytes })) (Err s) = sym t.stopped ∙ e in
      let same : record { kind = t.told; left = length bytes } ≡ s = cc in
      subst (λ k. rank k ≤ rank other) (ap kind_in same) t.counts;
}

first-wrong : (inside : ℕ) (bytes : List ℕ) (s : Stop) → NoneBefore inside bytes s → IsOwn inside bytes s → IsFirstWrong s.kind inside bytes
first-wrong inside bytes s b o = record { wrong = o.wrong; first = b.each }

record Standing (d : ℕ) : Type 0 where
  each : (inside : ℕ) (p : Part) → inside + d ≡ 32 → AreBytes p.bytes → Stands (partial_item_at d p) inside p

array-stands : (d : ℕ) → Standing d → (inside n : ℕ) (p : Part) (rest head : List ℕ) (s : Stop) → inside + suc d ≡ 32 → AreBytes rest → p.bytes ≡ head ++ rest → IsHead 4 n head → nat_lt n (2 ^ 32) ≡ true → items_at (item_at d) n rest ≡ Err s → Stands (unfinished d (partial_item_at d) p s.kind (Ok (heads.Array n, rest))) inside p
array-stands d standing inside n p rest head s room are w is t e =
    let l : suc inside + d ≡ 32 = omega arith in
    let r = items-row d (suc inside) n (body_of p rest) s l are e in
    rw t (rw r.run_is (refl, ltb-true n (2 ^ 32) t, r.fewer, cut-unfinished d r.next s r.are r.fault, headed inside 4 n p rest head r.parts (Stands (partial_item_at d r.next) (suc inside)) r.next (omega arith) is w r.row (standing.each (suc inside) r.next l r.are)))

entry-stands : (d : ℕ) → Standing d → (inside n : ℕ) (p : Part) (rest head : List ℕ) (s : Stop) (entries : List (Part × Part)) (next : Part) → suc inside + d ≡ 32 → p.bytes ≡ head ++ rest → IsHead 5 n head → n < 2 ^ 32 → length entries < n → StandInRow (suc inside) (keys_and_values entries) next (body_of p rest) → AreBytes next.bytes → (item_at d next.bytes ≡ Err s) ⊎ ValueStops d s next → Stands (unfinished_entry (partial_item_at d) p.at entries next (item_first d next)) inside p
entry-stands d standing inside n p rest head s entries next room w is short fewer row are (inl k) = rw (first-none d next s k) (
  refl,
  cut-unfinished d next s are k,
  record { n = n; limit = short; fewer = fewer; stands = headed inside 5 n p rest head (keys_and_values entries) (Stands (partial_item_at d next) (suc inside)) next (omega arith) is w row (standing.each (suc inside) next room are) },
)
entry-stands d standing inside n p rest head s entries next room w is short fewer row are (inr v) =
    let q : Part = body_of next v.key.1 in
    let mid = mid-bytes d next.bytes v.key.1 v.key.0 are v.read in
    let all = row-ends (suc inside) (keys_and_values entries) (front next v.key.1) next q (body_of p rest) row (first-stands d (suc inside) next v.key room are v.read) in
    rw (first-some d next v.key v.read) (
      refl,
      cut-unfinished d q s mid v.fault,
      record { n = n; limit = short; fewer = fewer; stands = headed inside 5 n p rest head (keys_and_values entries ++ (front next v.key.1 ∷ [])) (Stands (partial_item_at d q) (suc inside)) q (omega arith) is w all (standing.each (suc inside) q room mid) },
    )

map-stands : (d : ℕ) → Standing d → (inside n : ℕ) (p : Part) (rest head : List ℕ) (s : Stop) → inside + suc d ≡ 32 → AreBytes rest → p.bytes ≡ head ++ rest → IsHead 5 n head → nat_lt n (2 ^ 32) ≡ true → pairs_at (item_at d) n rest ≡ Err s → Stands (unfinished d (partial_item_at d) p s.kind (Ok (heads.Map n, rest))) inside p
map-stands d standing inside n p rest head s room are w is t e =
    let l : suc inside + d ≡ 32 = omega arith in
    let r = pairs-row d (suc inside) n (body_of p rest) s l are e in
    rw t (rw r.run_is (entry-stands d standing inside n p rest head s r.entries r.next l w is (ltb-true n (2 ^ 32) t) r.fewer r.row r.are r.fault))

tag-stands : (d : ℕ) → Standing d → (inside n : ℕ) (p : Part) (rest head : List ℕ) (s : Stop) → inside + suc d ≡ 32 → AreBytes rest → p.bytes ≡ head ++ rest → IsHead 6 n head → item_at d rest ≡ Err s → Stands (unfinished d (partial_item_at d) p s.kind (Ok (heads.Tag n, rest))) inside p
tag-stands d standing inside n p rest head s room are w is e =
    let l : suc inside + d ≡ 32 = omega arith in
    let q : Part = body_of p rest in
    (refl, cut-unfinished d q s are e, headed inside 6 n p rest head [] (Stands (partial_item_at d q) (suc inside)) q (omega arith) is w refl (standing.each (suc inside) q l are))

after-stands : (d : ℕ) → Standing d → (inside : ℕ) (p : Part) (head rest : List ℕ) (h : Head) (s : Stop) → NoneBefore inside p.bytes s → inside + suc d ≡ 32 → AreBytes rest → p.bytes ≡ head ++ rest → HeadOf h head → behind (Some (item_at d)) (length p.bytes) h rest ≡ Err s → Stands (unfinished d (partial_item_at d) p s.kind (Ok (h, rest))) inside p
after-stands d standing inside p head rest (heads.Unsigned n) s b room are w is e = absurd (cc)
after-stands d standing inside p head rest (heads.Negative n) s b room are w is e = absurd (cc)
after-stands d standing inside p head rest (heads.Bytes n) s b room are w is e = (refl, first-wrong inside p.bytes s b (bytes-wrong inside n p.bytes head rest s w is e))
after-stands d standing inside p head rest (heads.Text n) s b room are w is e = (refl, first-wrong inside p.bytes s b (text-wrong inside n p.bytes head rest s w is e))
after-stands d standing inside p head rest (heads.Array n) s b room are w is e = elim (if-cases (nat_lt n (2 ^ 32)) (items_at (item_at d) n rest >>= λ ts. read (Array ts.0) ts.1) (stop Length (length p.bytes)) (Err s) e) [
  | inl k ↦ array-stands d standing inside n p rest head s room are w is k.0 (bind-err (items_at (item_at d) n rest) (λ ts. Array ts) s k.1)
  | inr k ↦ let t : nat_lt n (2 ^ 32) ≡ false = k.0 in rw t (refl, first-wrong inside p.bytes s b (count-wrong 4 inside n p.bytes head rest s w is (inl refl) k.0 k.1))
]
after-stands d standing inside p head rest (heads.Map n) s b room are w is e = elim (if-cases (nat_lt n (2 ^ 32)) (pairs_at (item_at d) n rest >>= λ ps. read (Map ps.0) ps.1) (stop Length (length p.bytes)) (Err s) e) [
  | inl k ↦ map-stands d standing inside n p rest head s room are w is k.0 (bind-err (pairs_at (item_at d) n rest) (λ ps. Map ps) s k.1)
  | inr k ↦ let t : nat_lt n (2 ^ 32) ≡ false = k.0 in rw t (refl, first-wrong inside p.bytes s b (count-wrong 5 inside n p.bytes head rest s w is (inr refl) k.0 k.1))
]
after-stands d standing inside p head rest (heads.Tag n) s b room are w is e = tag-stands d standing inside n p rest head s room are w is (bind-err (item_at d rest) (λ t. Tag n t) s e)
after-stands d standing inside p head rest (heads.Simple n) s b room are w is e = absurd (cc)
after-stands d standing inside p head rest (heads.Float width n) s b room are w is e = absurd (cc)

head-stands : (d : ℕ) → Standing d → (inside : ℕ) (p : Part) (s : Stop) (r : Result (Head × List ℕ) CborKind) → NoneBefore inside p.bytes s → inside + suc d ≡ 32 → AreBytes p.bytes → head_at p.bytes ≡ r → behind_head (Some (item_at d)) (length p.bytes) r ≡ Err s → Stands (unfinished d (partial_item_at d) p s.kind r) inside p
head-stands d standing inside p s (Ok x) b room are r e = let h = head-sound p.bytes x.1 x.0 are r in after-stands d standing inside p h.front x.1 x.0 s b room (bytes-after p.bytes h.front x.1 h.whole are) h.whole h.head_of e
head-stands d standing inside p s (Err kind) b room are r e = (refl, first-wrong inside p.bytes s b (kind-wrong inside p.bytes kind s are r e))

-- ---- all levels

seen : (d inside : ℕ) (p : Part) → inside + d ≡ 32 → AreBytes p.bytes → ((s : Stop) → item_at d p.bytes ≡ Err s → Stands (partial_item_at d p) inside p) → Stands (partial_item_at d p) inside p
seen d inside p room are cut = elim (item_at d p.bytes) as (λ r. item_at d p.bytes ≡ r → Stands (partial_item_at d p) inside p) [
  | Ok x ↦ λ e. subst (λ (g : PartialItem). Stands g inside p) (sym (partial-whole d p x e)) (body_of p x.1, first-stands d inside p x room are e)
  | Err s ↦ λ e. cut s e
] refl

standing : (d : ℕ) → Standing d
standing zero = record { each = λ inside p room are. seen 0 inside p room are (λ s e. subst (λ (g : PartialItem). Stands g inside p) (sym (partial-flat p s e)) (refl, first-wrong inside p.bytes s (none-before inside 0 p.bytes s room e) (flat-own inside p.bytes s (omega arith) are e))) }
standing (suc d) = record { each = λ inside p room are. seen (suc d) inside p room are (λ s e. subst (λ (g : PartialItem). Stands g inside p) (sym (partial-cut d p s e)) (head-stands d (standing d) inside p s (head_at p.bytes) (none-before inside (suc d) p.bytes s room e) room are refl (sym (item-deep d p.bytes) ∙ e))) }

pub front-stands : (bytes : List ℕ) → AreBytes bytes → Stands (partial_item_at 32 (record { at = 0; bytes = bytes })) 0 (record { at = 0; bytes = bytes })
front-stands bytes are = (standing 32).each 0 (record { at = 0; bytes = bytes }) refl are
