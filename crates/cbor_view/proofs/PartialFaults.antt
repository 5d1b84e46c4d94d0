-- An item that isn't whole ends at its first fault.
use Rattle.std.proofs.Common.{◌≡◌, ◌⊎◌, ℕ, zero, suc, ◌+◌, ◌-◌, ◌<◌, ◌≤◌, ◌^◌, if◌then◌else◌, List, [], ◌∷◌, ◌++◌, map, length, take, drop, true, false, nat_lt, Option, Some, None, option_map, Result, Ok, Err, refl, sym, ap, ◌∙◌, subst, arith, inl, inr}
use Rattle.std.specs.Str.{is_utf8}
use Rattle.std.proofs.lemmas.List.{length-append}
use Rattle.cbor_view.specs.declared.cbor_kind.CborKind.{CborKind}
use Rattle.cbor_view.specs.declared.cbor_kind.CborKind.TheVariants.{Truncated, Length, Deep, BadText}
use Rattle.cbor_view.specs.declared.cbor_fault.CborFault.{CborFault}
use Rattle.cbor_view.specs.declared.stop.Stop.{Stop}
use Rattle.cbor_view.specs.declared.heads.Head.{Head}
use Rattle.cbor_view.specs.declared.heads.Head.TheVariants as heads
use Rattle.cbor_view.specs.Tree.{Tree, Bytes, Text, Array, Map, Tag, more, pair}
use Rattle.cbor_view.specs.Reading.{◌>>=◌, head_at, items_at, pairs_at, item_at, behind, behind_head, past, stop, string_at, text_at}
use Rattle.cbor_view.specs.Parts.{Part, body_of}
use Rattle.cbor_view.specs.PartialItem.{PartialItem, whole, in_array, in_map, in_value, in_tag, broken, front, split, item_first, pair_first, first_and_rest, whole_run, own_fault, unfinished, unfinished_array, unfinished_map, unfinished_entry, whole_or, partial_item_at, fault_in, place_in, whole_in, both_whole, rest_if_whole, until_broken, partial_pair_at, partial_value_at}
use Rattle.cbor_view.proofs.HeadReading.{AreBytes, AreBytes-after, if-cases, head-sound}
use Rattle.cbor_view.proofs.ItemReading.{item-sound}
use Rattle.cbor_view.proofs.Steps.{first-of, failed}

-- ---- steps that fail

abbrev read : {A : Type 0} → A → List ℕ → Result (A × List ℕ) Stop
read x rest = Ok (x, rest)

pub bind-err : {A B : Type 0} (r : Result (A × List ℕ) Stop) (f : A → B) (s : Stop) → (r >>= λ x. read (f x.0) x.1) ≡ Err s → r ≡ Err s
bind-err (Ok x) f s e = absurd (cc)
bind-err (Err d) f s e = cc

pub stopped : {A : Type 0} (kind : CborKind) (left : ℕ) (s : Stop) → ◌≡◌ {A = Result A Stop} (Err (record { kind = kind; left = left })) (Err s) → s.left ≡ left
stopped kind left s e = let q : record { kind = kind; left = left } ≡ s = cc in let f : Stop → ℕ = λ x. x.left in ap f (sym q)

string-left : (left n : ℕ) (rest : List ℕ) (s : Stop) → string_at left n rest ≡ Err s → s.left ≡ left
string-left left n rest s e = elim (if-cases (nat_lt (length rest) n) (stop Truncated left) (if nat_lt n (2 ^ 32) then Ok (take n rest, drop n rest) else stop Length left) (Err s) e) [
  | inl k ↦ stopped {A = List ℕ × List ℕ} Truncated left s k.1
  | inr k ↦ elim (if-cases (nat_lt n (2 ^ 32)) (Ok (take n rest, drop n rest)) (stop Length left) (Err s) k.1) [
    | inl j ↦ absurd (cc)
    | inr j ↦ stopped {A = List ℕ × List ℕ} Length left s j.1
  ]
]

text-after : (left : ℕ) (r : Result (List ℕ × List ℕ) Stop) (s : Stop) → ((z : Stop) → r ≡ Err z → z.left ≡ left) → (r >>= λ x. if is_utf8 x.0 then Ok x else stop BadText left) ≡ Err s → s.left ≡ left
text-after left (Ok x) s h e = elim (if-cases (is_utf8 x.0) (Ok x) (stop BadText left) (Err s) e) [ inl k ↦ absurd (cc) | inr k ↦ stopped {A = List ℕ × List ℕ} BadText left s k.1 ]
text-after left (Err z) s h e = h s cc

text-left : (left n : ℕ) (rest : List ℕ) (s : Stop) → text_at left n rest ≡ Err s → s.left ≡ left
text-left left n rest s e = text-after left (string_at left n rest) s (λ z h. string-left left n rest z h) e

bytes-left : (left n : ℕ) (rest : List ℕ) (s : Stop) → (string_at left n rest >>= λ x. read (Bytes x.0) x.1) ≡ Err s → s.left ≡ left
bytes-left left n rest s e = string-left left n rest s (bind-err (string_at left n rest) (λ b. Bytes b) s e)

texts-left : (left n : ℕ) (rest : List ℕ) (s : Stop) → (text_at left n rest >>= λ x. read (Text x.0) x.1) ≡ Err s → s.left ≡ left
texts-left left n rest s e = text-left left n rest s (bind-err (text_at left n rest) (λ b. Text b) s e)

count-left : (left n : ℕ) (s : Stop) → (if nat_lt n (2 ^ 32) then stop {A = Tree × List ℕ} Deep left else stop Length left) ≡ Err s → s.left ≡ left
count-left left n s e = elim (if-cases (nat_lt n (2 ^ 32)) (stop Deep left) (stop Length left) (Err s) e) [ inl k ↦ stopped {A = Tree × List ℕ} Deep left s k.1 | inr k ↦ stopped {A = Tree × List ℕ} Length left s k.1 ]

-- with no level of nesting left each fault is of the item's own head, string or count
flat-after : (left : ℕ) (h : Head) (rest : List ℕ) (s : Stop) → behind None left h rest ≡ Err s → s.left ≡ left
flat-after left (heads.Unsigned n) rest s e = absurd (cc)
flat-after left (heads.Negative n) rest s e = absurd (cc)
flat-after left (heads.Bytes n) rest s e = bytes-left left n rest s e
flat-after left (heads.Text n) rest s e = texts-left left n rest s e
flat-after left (heads.Array n) rest s e = count-left left n s e
flat-after left (heads.Map n) rest s e = count-left left n s e
flat-after left (heads.Tag n) rest s e = stopped {A = Tree × List ℕ} Deep left s e
flat-after left (heads.Simple n) rest s e = absurd (cc)
flat-after left (heads.Float w n) rest s e = absurd (cc)

flat-head : (left : ℕ) (r : Result (Head × List ℕ) CborKind) (s : Stop) → behind_head None left r ≡ Err s → s.left ≡ left
flat-head left (Ok x) s e = flat-after left x.0 x.1 s e
flat-head left (Err kind) s e = stopped {A = Tree × List ℕ} kind left s e

pub item-flat : (bytes : List ℕ) → item_at 0 bytes ≡ behind_head None (length bytes) (head_at bytes)
unfolding item_at
item-flat bytes = refl

pub item-deep : (d : ℕ) (bytes : List ℕ) → item_at (suc d) bytes ≡ behind_head (Some (item_at d)) (length bytes) (head_at bytes)
unfolding item_at
item-deep d bytes = refl

-- ---- the steps of the definition

pub partial-flat : (p : Part) (s : Stop) → item_at 0 p.bytes ≡ Err s → partial_item_at 0 p ≡ own_fault p s.kind
unfolding partial_item_at
partial-flat p s e = ap (whole_or p (own_fault p)) e

pub partial-cut : (d : ℕ) (p : Part) (s : Stop) → item_at (suc d) p.bytes ≡ Err s → partial_item_at (suc d) p ≡ unfinished d (partial_item_at d) p s.kind (head_at p.bytes)
unfolding partial_item_at
partial-cut d p s e = ap (whole_or p (λ kind. unfinished d (partial_item_at d) p kind (head_at p.bytes))) e

pub partial-whole : (d : ℕ) (p : Part) (x : Tree × List ℕ) → item_at d p.bytes ≡ Ok x → partial_item_at d p ≡ whole (front p x.1)
unfolding partial_item_at
partial-whole zero p x e = ap (whole_or p (own_fault p)) e
partial-whole (suc d) p x e = ap (whole_or p (λ kind. unfinished d (partial_item_at d) p kind (head_at p.bytes))) e

pub first-some : (d : ℕ) (p : Part) (x : Tree × List ℕ) → item_at d p.bytes ≡ Ok x → item_first d p ≡ Some (front p x.1, body_of p x.1)
first-some d p x e = ap (split p) e

pub first-none : (d : ℕ) (p : Part) (s : Stop) → item_at d p.bytes ≡ Err s → item_first d p ≡ None
first-none d p s e = ap (split p) e

pub run-some : {A : Type 0} (first : Part → Option (A × Part)) (n : ℕ) (p : Part) (s : A × Part) → first p ≡ Some s → whole_run first (suc n) p ≡ (s.0 ∷ (whole_run first n s.1).0, (whole_run first n s.1).1)
unfolding whole_run
run-some first n p s e = ap (λ o. first_and_rest p o (whole_run first n)) e

pub run-none : {A : Type 0} (first : Part → Option (A × Part)) (n : ℕ) (p : Part) → first p ≡ None → whole_run first (suc n) p ≡ ([], p)
unfolding whole_run
run-none first n p e = ap (λ o. first_and_rest p o (whole_run first n)) e

pub until-some : {A B : Type 0} (look : Part → B) (first : Part → Option (A × Part)) (n : ℕ) (p : Part) (s : A × Part) → first p ≡ Some s → until_broken look first (suc n) p ≡ look p ∷ until_broken look first n s.1
unfolding until_broken
until-some look first n p s e = ap (λ o. look p ∷ rest_if_whole o (until_broken look first n)) e

pub until-none : {A B : Type 0} (look : Part → B) (first : Part → Option (A × Part)) (n : ℕ) (p : Part) → first p ≡ None → until_broken look first (suc n) p ≡ look p ∷ []
unfolding until_broken
until-none look first n p e = ap (λ o. look p ∷ rest_if_whole o (until_broken look first n)) e

-- ---- the first of several that isn't whole

-- what is left ends where the file ends
pub ends-with : (p : Part) (rest : List ℕ) → length rest ≤ length p.bytes → p.at + (length p.bytes - length rest) + length rest ≡ p.at + length p.bytes
ends-with p rest l = omega arith

pub record RunStops {A B : Type 0} (look : Part → B) (known : A → B) (first : Part → Option (A × Part)) (n : ℕ) (p : Part) (At : Part → Type 0) : Type 0 where
  pub parts : List A
  pub next : Part
  pub run_is : whole_run first n p ≡ (parts, next)
  pub row_is : until_broken look first n p ≡ map known parts ++ (look next ∷ [])
  pub ends : next.at + length next.bytes ≡ p.at + length p.bytes
  pub stops : At next

stops-later : {A B : Type 0} (look : Part → B) (known : A → B) (first : Part → Option (A × Part)) (n : ℕ) (p : Part) (At : Part → Type 0) (s : A × Part) → first p ≡ Some s → look p ≡ known s.0 → s.1.at + length s.1.bytes ≡ p.at + length p.bytes → RunStops look known first n s.1 At → RunStops look known first (suc n) p At
stops-later {A} {B} look known first n p At s e k l r = record {
  parts = s.0 ∷ r.parts;
  next = r.next;
  run_is = let f : List A × Part → List A × Part = λ w. (s.0 ∷ w.0, w.1) in run-some first n p s e ∙ ap f r.run_is;
  row_is = until-some look first n p s e ∙ (ap (λ g. g ∷ until_broken look first n s.1) k ∙ ap (λ gs. known s.0 ∷ gs) r.row_is);
  ends = r.ends ∙ l;
  stops = r.stops;
}

stops-here : {A B : Type 0} (look : Part → B) (known : A → B) (first : Part → Option (A × Part)) (n : ℕ) (p : Part) (At : Part → Type 0) → first p ≡ None → At p → RunStops look known first (suc n) p At
stops-here look known first n p At e a = record { parts = []; next = p; run_is = run-none first n p e; row_is = until-none look first n p e; ends = refl; stops = a }

-- what is read of an item leaves bytes after it
pub record Leaves (bytes rest : List ℕ) : Type 0 where
  pub within : length rest ≤ length bytes
  pub are : AreBytes rest

pub leaves : (d : ℕ) (bytes : List ℕ) (x : Tree × List ℕ) → AreBytes bytes → item_at d bytes ≡ Ok x → Leaves bytes x.1
leaves d bytes x are e =
    let s = (item-sound d).each bytes x.1 x.0 are e in
    record { within = omega (arith, ap length s.whole, length-append s.front x.1); are = AreBytes-after s.front x.1 (subst AreBytes s.whole are) }

pub leaves-head : (bytes rest : List ℕ) (h : Head) → AreBytes bytes → head_at bytes ≡ Ok (h, rest) → Leaves bytes rest
leaves-head bytes rest h are e =
    let s = head-sound bytes rest h are e in
    record { within = omega (arith, ap length s.whole, length-append s.front rest); are = AreBytes-after s.front rest (subst AreBytes s.whole are) }

pub record ItemStops (d : ℕ) (s : Stop) (p : Part) : Type 0 where
  pub are : AreBytes p.bytes
  pub fault : item_at d p.bytes ≡ Err s

pub items-stop : (d n : ℕ) (p : Part) (s : Stop) → AreBytes p.bytes → items_at (item_at d) n p.bytes ≡ Err s → RunStops (partial_item_at d) (λ q. whole q) (item_first d) n p (ItemStops d s)
unfolding items_at
items-stop d zero p s are e = absurd (cc)
items-stop d (suc n) p s are e = elim (item_at d p.bytes) as (λ r. item_at d p.bytes ≡ r → (r >>= λ t. items_at (item_at d) n t.1 >>= λ ts. read (more t.0 ts.0) ts.1) ≡ Err s → RunStops (partial_item_at d) (λ q. whole q) (item_first d) (suc n) p (ItemStops d s)) [
  | Ok x ↦ λ i f.
      let l = leaves d p.bytes x are i in
      let g = bind-err (items_at (item_at d) n x.1) (λ ts. more x.0 ts) s f in
      stops-later (partial_item_at d) (λ q. whole q) (item_first d) n p (ItemStops d s) (front p x.1, body_of p x.1) (first-some d p x i) (partial-whole d p x i) (ends-with p x.1 l.within) (items-stop d n (body_of p x.1) s l.are g)
  | Err z ↦ λ i f. stops-here (partial_item_at d) (λ q. whole q) (item_first d) n p (ItemStops d s) (first-none d p z i) (record { are = are; fault = i ∙ cc })
] refl e

-- the key isn't whole, or its value isn't
pub record ValueStops (d : ℕ) (s : Stop) (p : Part) : Type 0 where
  pub key : Tree × List ℕ
  pub read : item_at d p.bytes ≡ Ok key
  pub fault : item_at d key.1 ≡ Err s

pub record PairStops (d : ℕ) (s : Stop) (p : Part) : Type 0 where
  pub are : AreBytes p.bytes
  pub fault : (item_at d p.bytes ≡ Err s) ⊎ ValueStops d s p

pub pair-some : (d : ℕ) (p : Part) (k v : Tree × List ℕ) → item_at d p.bytes ≡ Ok k → item_at d k.1 ≡ Ok v → pair_first d p ≡ Some ((front p k.1, front (body_of p k.1) v.1), body_of (body_of p k.1) v.1)
pair-some d p k v e f = rw (first-some d p k e) (rw (first-some d (body_of p k.1) v f) refl)

pub pair-key-none : (d : ℕ) (p : Part) (s : Stop) → item_at d p.bytes ≡ Err s → pair_first d p ≡ None
pair-key-none d p s e = rw (first-none d p s e) refl

pub pair-value-none : (d : ℕ) (p : Part) (k : Tree × List ℕ) (s : Stop) → item_at d p.bytes ≡ Ok k → item_at d k.1 ≡ Err s → pair_first d p ≡ None
pair-value-none d p k s e f = rw (first-some d p k e) (rw (first-none d (body_of p k.1) s f) refl)

pub pair-seen : (d : ℕ) (p : Part) (k v : Tree × List ℕ) → item_at d p.bytes ≡ Ok k → item_at d k.1 ≡ Ok v → partial_pair_at d p ≡ both_whole (front p k.1, front (body_of p k.1) v.1)
pair-seen d p k v e f = rw (first-some d p k e, partial-whole d p k e) (rw (partial-whole d (body_of p k.1) v f) refl)

pub pairs-stop : (d n : ℕ) (p : Part) (s : Stop) → AreBytes p.bytes → pairs_at (item_at d) n p.bytes ≡ Err s → RunStops (partial_pair_at d) both_whole (pair_first d) n p (PairStops d s)
unfolding pairs_at
pairs-stop d zero p s are e = absurd (cc)
pairs-stop d (suc n) p s are e = elim (item_at d p.bytes) as (λ r. item_at d p.bytes ≡ r → (r >>= λ k. item_at d k.1 >>= λ v. pairs_at (item_at d) n v.1 >>= λ ps. read (pair k.0 v.0 ps.0) ps.1) ≡ Err s → RunStops (partial_pair_at d) both_whole (pair_first d) (suc n) p (PairStops d s)) [
  | Ok k ↦ λ i f.
      let l = leaves d p.bytes k are i in
      elim (item_at d k.1) as (λ r. item_at d k.1 ≡ r → (r >>= λ v. pairs_at (item_at d) n v.1 >>= λ ps. read (pair k.0 v.0 ps.0) ps.1) ≡ Err s → RunStops (partial_pair_at d) both_whole (pair_first d) (suc n) p (PairStops d s)) [
        | Ok v ↦ λ j g.
            let m = leaves d k.1 v l.are j in
            let h = bind-err (pairs_at (item_at d) n v.1) (λ ps. pair k.0 v.0 ps) s g in
            let q : Part = body_of p k.1 in
            stops-later (partial_pair_at d) both_whole (pair_first d) n p (PairStops d s) ((front p k.1, front q v.1), body_of q v.1) (pair-some d p k v i j) (pair-seen d p k v i j) (ends-with q v.1 m.within ∙ ends-with p k.1 l.within) (pairs-stop d n (body_of q v.1) s m.are h)
        | Err z ↦ λ j g. stops-here (partial_pair_at d) both_whole (pair_first d) n p (PairStops d s) (pair-value-none d p k z i j) (record { are = are; fault = inr (record { key = k; read = i; fault = j ∙ cc }) })
      ] refl f
  | Err z ↦ λ i f. stops-here (partial_pair_at d) both_whole (pair_first d) n p (PairStops d s) (pair-key-none d p z i) (record { are = are; fault = inl (i ∙ cc) })
] refl e

-- ---- the fault of a partial item

abbrev pub fault_from : Part → Stop → CborFault
fault_from p s = record { kind = s.kind; at = (p.at + length p.bytes) - s.left }

pub same-fault : (q p : Part) (s : Stop) → q.at + length q.bytes ≡ p.at + length p.bytes → Some (fault_from q s) ≡ Some (fault_from p s)
same-fault q p s e = ap (λ m. Some (record { kind = s.kind; at = m - s.left })) e

own-told : (p : Part) (s : Stop) → s.left ≡ length p.bytes → fault_in (own_fault p s.kind) ≡ Some (fault_from p s)
own-told p s e = let n : p.at ≡ (p.at + length p.bytes) - s.left = omega arith in ap (λ m. Some (record { kind = s.kind; at = m })) n

record Tells (d : ℕ) : Type 0 where
  each : (p : Part) (s : Stop) → AreBytes p.bytes → item_at d p.bytes ≡ Err s → fault_in (partial_item_at d p) ≡ Some (fault_from p s)

array-told : (d : ℕ) → Tells d → (n : ℕ) (p : Part) (rest : List ℕ) (s : Stop) → Leaves p.bytes rest → items_at (item_at d) n rest ≡ Err s → fault_in (unfinished_array (partial_item_at d) p.at n (whole_run (item_first d) n (body_of p rest))) ≡ Some (fault_from p s)
array-told d tells n p rest s l e =
    let r = items-stop d n (body_of p rest) s l.are e in
    rw r.run_is (tells.each r.next s r.stops.are r.stops.fault ∙ same-fault r.next p s (r.ends ∙ ends-with p rest l.within))

entry-told : (d : ℕ) → Tells d → (at : ℕ) (pairs : List (Part × Part)) (q : Part) (s : Stop) → AreBytes q.bytes → (item_at d q.bytes ≡ Err s) ⊎ ValueStops d s q → fault_in (unfinished_entry (partial_item_at d) at pairs q (item_first d q)) ≡ Some (fault_from q s)
entry-told d tells at pairs q s are (inl e) = rw (first-none d q s e) (tells.each q s are e)
entry-told d tells at pairs q s are (inr v) =
    let l = leaves d q.bytes v.key are v.read in
    rw (first-some d q v.key v.read) (tells.each (body_of q v.key.1) s l.are v.fault ∙ same-fault (body_of q v.key.1) q s (ends-with q v.key.1 l.within))

map-told : (d : ℕ) → Tells d → (n : ℕ) (p : Part) (rest : List ℕ) (s : Stop) → Leaves p.bytes rest → pairs_at (item_at d) n rest ≡ Err s → fault_in (unfinished_map d (partial_item_at d) p.at (whole_run (pair_first d) n (body_of p rest))) ≡ Some (fault_from p s)
map-told d tells n p rest s l e =
    let r = pairs-stop d n (body_of p rest) s l.are e in
    rw r.run_is (entry-told d tells p.at r.parts r.next s r.stops.are r.stops.fault ∙ same-fault r.next p s (r.ends ∙ ends-with p rest l.within))

tag-told : (d : ℕ) → Tells d → (p : Part) (rest : List ℕ) (s : Stop) → Leaves p.bytes rest → item_at d rest ≡ Err s → fault_in (partial_item_at d (body_of p rest)) ≡ Some (fault_from p s)
tag-told d tells p rest s l e = tells.each (body_of p rest) s l.are e ∙ same-fault (body_of p rest) p s (ends-with p rest l.within)

behind-told : (d : ℕ) → Tells d → (p : Part) (h : Head) (rest : List ℕ) (s : Stop) → Leaves p.bytes rest → behind (Some (item_at d)) (length p.bytes) h rest ≡ Err s → fault_in (unfinished d (partial_item_at d) p s.kind (Ok (h, rest))) ≡ Some (fault_from p s)
behind-told d tells p (heads.Unsigned n) rest s l e = absurd (cc)
behind-told d tells p (heads.Negative n) rest s l e = absurd (cc)
behind-told d tells p (heads.Bytes n) rest s l e = own-told p s (bytes-left (length p.bytes) n rest s e)
behind-told d tells p (heads.Text n) rest s l e = own-told p s (texts-left (length p.bytes) n rest s e)
behind-told d tells p (heads.Array n) rest s l e = elim (if-cases (nat_lt n (2 ^ 32)) (items_at (item_at d) n rest >>= λ ts. read (Array ts.0) ts.1) (stop Length (length p.bytes)) (Err s) e) [
  | inl k ↦ let t : nat_lt n (2 ^ 32) ≡ true = k.0 in rw t (array-told d tells n p rest s l (bind-err (items_at (item_at d) n rest) (λ ts. Array ts) s k.1))
  | inr k ↦ let t : nat_lt n (2 ^ 32) ≡ false = k.0 in rw t (own-told p s (stopped {A = Tree × List ℕ} Length (length p.bytes) s k.1))
]
behind-told d tells p (heads.Map n) rest s l e = elim (if-cases (nat_lt n (2 ^ 32)) (pairs_at (item_at d) n rest >>= λ ps. read (Map ps.0) ps.1) (stop Length (length p.bytes)) (Err s) e) [
  | inl k ↦ let t : nat_lt n (2 ^ 32) ≡ true = k.0 in rw t (map-told d tells n p rest s l (bind-err (pairs_at (item_at d) n rest) (λ ps. Map ps) s k.1))
  | inr k ↦ let t : nat_lt n (2 ^ 32) ≡ false = k.0 in rw t (own-told p s (stopped {A = Tree × List ℕ} Length (length p.bytes) s k.1))
]
behind-told d tells p (heads.Tag n) rest s l e = tag-told d tells p rest s l (bind-err (item_at d rest) (λ t. Tag n t) s e)
behind-told d tells p (heads.Simple n) rest s l e = absurd (cc)
behind-told d tells p (heads.Float w n) rest s l e = absurd (cc)

head-told : (d : ℕ) → Tells d → (p : Part) (r : Result (Head × List ℕ) CborKind) (s : Stop) → AreBytes p.bytes → head_at p.bytes ≡ r → behind_head (Some (item_at d)) (length p.bytes) r ≡ Err s → fault_in (unfinished d (partial_item_at d) p s.kind r) ≡ Some (fault_from p s)
head-told d tells p (Ok x) s are h e = behind-told d tells p x.0 x.1 s (leaves-head p.bytes x.1 x.0 are h) e
head-told d tells p (Err kind) s are h e = own-told p s (stopped {A = Tree × List ℕ} kind (length p.bytes) s e)

tells : (d : ℕ) → Tells d
tells zero = record { each = λ p s are e. ap fault_in (partial-flat p s e) ∙ own-told p s (flat-head (length p.bytes) (head_at p.bytes) s (sym (item-flat p.bytes) ∙ e)) }
tells (suc d) = record { each = λ p s are e. ap fault_in (partial-cut d p s e) ∙ head-told d (tells d) p (head_at p.bytes) s are refl (sym (item-deep d p.bytes) ∙ e) }

pub partial-fault : (d : ℕ) (p : Part) (s : Stop) → AreBytes p.bytes → item_at d p.bytes ≡ Err s → fault_in (partial_item_at d p) ≡ Some (fault_from p s)
partial-fault d p s are e = (tells d).each p s are e

pub told-whole : (d : ℕ) (p : Part) (rest : List ℕ) → past (item_at d p.bytes) ≡ Ok rest → None ≡ fault_in (partial_item_at d p)
told-whole d p rest e = let f = first-of (item_at d p.bytes) rest e in ap fault_in (sym (partial-whole d p (f.0, rest) f.1))

pub told-fault : (d : ℕ) (p : Part) (s : Stop) → AreBytes p.bytes → past (item_at d p.bytes) ≡ Err s → Some (fault_from p s) ≡ fault_in (partial_item_at d p)
told-fault d p s are e = sym (partial-fault d p s are (failed (item_at d p.bytes) s e))

pub view-whole : (d : ℕ) (p : Part) (rest : List ℕ) → past (item_at d p.bytes) ≡ Ok rest → Some (front p rest) ≡ whole_in (partial_item_at d p)
view-whole d p rest e = let f = first-of (item_at d p.bytes) rest e in ap whole_in (sym (partial-whole d p (f.0, rest) f.1))

not-whole : (g : PartialItem) (f : CborFault) → fault_in g ≡ Some f → None ≡ whole_in g
not-whole (whole p) f e = absurd (cc)
not-whole (in_array at n items next) f e = refl
not-whole (in_map at pairs key) f e = refl
not-whole (in_value at pairs key value) f e = refl
not-whole (in_tag at n inner) f e = refl
not-whole (broken fault) f e = refl

pub view-none : (d : ℕ) (p : Part) (s : Stop) → AreBytes p.bytes → past (item_at d p.bytes) ≡ Err s → None ≡ whole_in (partial_item_at d p)
view-none d p s are e = not-whole (partial_item_at d p) (fault_from p s) (partial-fault d p s are (failed (item_at d p.bytes) s e))

-- ---- its place

place-entry : (one : Part → PartialItem) (at : ℕ) (pairs : List (Part × Part)) (q : Part) (k : Option (Part × Part)) → place_in (unfinished_entry one at pairs q k) ≡ at
place-entry one at pairs q None = refl
place-entry one at pairs q (Some k) = refl

place-cut : (d : ℕ) (one : Part → PartialItem) (p : Part) (kind : CborKind) (r : Result (Head × List ℕ) CborKind) → place_in (unfinished d one p kind r) ≡ p.at
place-cut d one p kind (Err e) = refl
place-cut d one p kind (Ok (heads.Unsigned n, rest)) = refl
place-cut d one p kind (Ok (heads.Negative n, rest)) = refl
place-cut d one p kind (Ok (heads.Bytes n, rest)) = refl
place-cut d one p kind (Ok (heads.Text n, rest)) = refl
place-cut d one p kind (Ok (heads.Array n, rest)) = elim (nat_lt n (2 ^ 32)) as (λ b. place_in (if b then unfinished_array one p.at n (whole_run (item_first d) n (body_of p rest)) else own_fault p kind) ≡ p.at) [ true ↦ refl | false ↦ refl ]
place-cut d one p kind (Ok (heads.Map n, rest)) = let r = whole_run (pair_first d) n (body_of p rest) in elim (nat_lt n (2 ^ 32)) as (λ b. place_in (if b then unfinished_map d one p.at r else own_fault p kind) ≡ p.at) [ true ↦ place-entry one p.at r.0 r.1 (item_first d r.1) | false ↦ refl ]
place-cut d one p kind (Ok (heads.Tag n, rest)) = refl
place-cut d one p kind (Ok (heads.Simple n, rest)) = refl
place-cut d one p kind (Ok (heads.Float w n, rest)) = refl

place-seen : (p : Part) (other : CborKind → PartialItem) (r : Result (Tree × List ℕ) Stop) → ((kind : CborKind) → place_in (other kind) ≡ p.at) → place_in (whole_or p other r) ≡ p.at
place-seen p other (Ok x) h = refl
place-seen p other (Err s) h = h s.kind

pub place-is : (d : ℕ) (p : Part) → place_in (partial_item_at d p) ≡ p.at
unfolding partial_item_at
place-is zero p = place-seen p (own_fault p) (item_at 0 p.bytes) (λ kind. refl)
place-is (suc d) p = place-seen p (λ kind. unfinished d (partial_item_at d) p kind (head_at p.bytes)) (item_at (suc d) p.bytes) (λ kind. place-cut d (partial_item_at d) p kind (head_at p.bytes))

-- ---- one step from an item to what follows it

pub left-after : (d : ℕ) (p : Part) (rest : List ℕ) → AreBytes p.bytes → past (item_at d p.bytes) ≡ Ok rest → Leaves p.bytes rest
left-after d p rest are e = let f = first-of (item_at d p.bytes) rest e in leaves d p.bytes (f.0, rest) are f.1

-- ---- the steps of iterators

pub until-end : {A B : Type 0} (look : Part → B) (first : Part → Option (A × Part)) (n : ℕ) (p : Part) → n ≡ 0 → until_broken look first n p ≡ []
unfolding until_broken
until-end look first zero p e = refl
until-end look first (suc n) p e = absurd (omega arith)

until-go : {A B : Type 0} (look : Part → B) (first : Part → Option (A × Part)) (n : ℕ) (p : Part) → 0 < n → until_broken look first n p ≡ look p ∷ rest_if_whole (first p) (until_broken look first (n - 1))
unfolding until_broken
until-go look first zero p h = absurd (omega arith)
until-go look first (suc n) p h = let e : n ≡ suc n - 1 = omega arith in ap (λ m. look p ∷ rest_if_whole (first p) (until_broken look first m)) e

-- the next of the same levels
abbrev pub next_at : ℕ → Option (Part × Part) → Option (ℕ × Part)
next_at d first = option_map (λ s. (d, s.1)) first

items-on : (d n : ℕ) (first : Option (Part × Part)) (g : ℕ × Part) → Some g ≡ next_at d first → rest_if_whole first (until_broken (partial_item_at d) (item_first d) n) ≡ until_broken (partial_item_at g.0) (item_first g.0) n g.1
items-on d n None g e = absurd (cc)
items-on d n (Some s) g e = let q : g ≡ (d, s.1) = cc in ap (λ (x : ℕ × Part). until_broken (partial_item_at x.0) (item_first x.0) n x.1) (sym q)

items-over : {B : Type 0} (d : ℕ) (first : Option (Part × Part)) (others : Part → List B) → None ≡ next_at d first → rest_if_whole first others ≡ []
items-over d None others e = refl
items-over d (Some s) others e = absurd (cc)

pub items-next : (d n : ℕ) (p : Part) (g : ℕ × Part) → 0 < n → Some g ≡ next_at d (item_first d p) → until_broken (partial_item_at d) (item_first d) n p ≡ partial_item_at d p ∷ until_broken (partial_item_at g.0) (item_first g.0) (n - 1) g.1
items-next d n p g h e = until-go (partial_item_at d) (item_first d) n p h ∙ ap (λ gs. partial_item_at d p ∷ gs) (items-on d (n - 1) (item_first d p) g e)

pub items-last : (d n : ℕ) (p q : Part) (m : ℕ) → 0 < n → None ≡ next_at d (item_first d p) → m ≡ 0 → until_broken (partial_item_at d) (item_first d) n p ≡ partial_item_at d p ∷ until_broken (partial_item_at d) (item_first d) m q
items-last d n p q m h e z = until-go (partial_item_at d) (item_first d) n p h ∙ ap (λ gs. partial_item_at d p ∷ gs) (items-over d (item_first d p) (until_broken (partial_item_at d) (item_first d) (n - 1)) e ∙ sym (until-end (partial_item_at d) (item_first d) m q z))

-- nothing follows the last one
nothing-follows : {A B : Type 0} (look : Part → B) (first : Part → Option (A × Part)) (m : ℕ) (o : Option (A × Part)) → m ≡ 0 → rest_if_whole o (until_broken look first m) ≡ []
nothing-follows look first m None e = refl
nothing-follows look first m (Some s) e = until-end look first m s.1 e

pub items-only : (d n : ℕ) (p q : Part) → n ≡ 1 → until_broken (partial_item_at d) (item_first d) n p ≡ partial_item_at d p ∷ until_broken (partial_item_at d) (item_first d) 0 q
items-only d n p q h =
    let some : 0 < n = omega arith in
    let none : n - 1 ≡ 0 = omega arith in
    until-go (partial_item_at d) (item_first d) n p some ∙ ap (λ gs. partial_item_at d p ∷ gs) (nothing-follows (partial_item_at d) (item_first d) (n - 1) (item_first d p) none ∙ sym (until-end (partial_item_at d) (item_first d) 0 q refl))

-- what follows the key of a pair
record KeyIs (d : ℕ) (p : Part) (value : ℕ × Part) : Type 0 where
  key : Part
  mid : Part
  first : item_first d p ≡ Some (key, mid)
  same : value ≡ (d, mid)

pair-both : (d : ℕ) (p key mid value end : Part) → item_first d p ≡ Some (key, mid) → item_first d mid ≡ Some (value, end) → pair_first d p ≡ Some ((key, value), end)
pair-both d p key mid value end e f = rw e (rw f refl)

pair-no-value : (d : ℕ) (p key mid : Part) → item_first d p ≡ Some (key, mid) → item_first d mid ≡ None → pair_first d p ≡ None
pair-no-value d p key mid e f = rw e (rw f refl)

pair-no-key : (d : ℕ) (p : Part) → item_first d p ≡ None → pair_first d p ≡ None
pair-no-key d p e = rw e refl

key-is : (d : ℕ) (p : Part) (value : ℕ × Part) (first : Option (Part × Part)) → item_first d p ≡ first → Some value ≡ next_at d first → KeyIs d p value
key-is d p value None f e = absurd (cc)
key-is d p value (Some s) f e = record { key = s.0; mid = s.1; first = f; same = cc }

none-is : (d : ℕ) (first : Option (Part × Part)) → None ≡ next_at d first → first ≡ None
none-is d None e = refl
none-is d (Some s) e = absurd (cc)

pairs-go : (d n : ℕ) (p : Part) (seen_value : Option PartialItem) (gs : List (PartialItem × Option PartialItem)) → 0 < n → partial_value_at d (item_first d p) ≡ seen_value → rest_if_whole (pair_first d p) (until_broken (partial_pair_at d) (pair_first d) (n - 1)) ≡ gs → until_broken (partial_pair_at d) (pair_first d) n p ≡ (partial_item_at d p, seen_value) ∷ gs
pairs-go d n p seen_value gs h v b = until-go (partial_pair_at d) (pair_first d) n p h ∙ (ap (λ (x : Option PartialItem). (partial_item_at d p, x) ∷ rest_if_whole (pair_first d p) (until_broken (partial_pair_at d) (pair_first d) (n - 1))) v ∙ ap (λ (x : List (PartialItem × Option PartialItem)). (partial_item_at d p, seen_value) ∷ x) b)

pub pairs-next : (d n : ℕ) (p : Part) (value g : ℕ × Part) → 0 < n → Some value ≡ next_at d (item_first d p) → Some g ≡ next_at value.0 (item_first value.0 value.1) → until_broken (partial_pair_at d) (pair_first d) n p ≡ (partial_item_at d p, Some (partial_item_at value.0 value.1)) ∷ until_broken (partial_pair_at g.0) (pair_first g.0) (n - 1) g.1
pairs-next d n p value g h e f =
    let k = key-is d p value (item_first d p) refl e in
    let f2 : Some g ≡ next_at d (item_first d k.mid) = subst (λ (x : ℕ × Part). Some g ≡ next_at x.0 (item_first x.0 x.1)) k.same f in
    let j = key-is d k.mid g (item_first d k.mid) refl f2 in
    let both : pair_first d p ≡ Some ((k.key, j.key), j.mid) = pair-both d p k.key k.mid j.key j.mid k.first j.first in
    let seen_is : partial_value_at d (item_first d p) ≡ Some (partial_item_at value.0 value.1) = ap (partial_value_at d) k.first ∙ ap (λ (x : ℕ × Part). Some (partial_item_at x.0 x.1)) (sym k.same) in
    let rest_is : rest_if_whole (pair_first d p) (until_broken (partial_pair_at d) (pair_first d) (n - 1)) ≡ until_broken (partial_pair_at g.0) (pair_first g.0) (n - 1) g.1 = ap (λ (o : Option ((Part × Part) × Part)). rest_if_whole o (until_broken (partial_pair_at d) (pair_first d) (n - 1))) both ∙ ap (λ (x : ℕ × Part). until_broken (partial_pair_at x.0) (pair_first x.0) (n - 1) x.1) (sym j.same) in
    pairs-go d n p (Some (partial_item_at value.0 value.1)) (until_broken (partial_pair_at g.0) (pair_first g.0) (n - 1) g.1) h seen_is rest_is

pub pairs-last-value : (d n : ℕ) (p q : Part) (value : ℕ × Part) → 0 < n → Some value ≡ next_at d (item_first d p) → None ≡ next_at value.0 (item_first value.0 value.1) → until_broken (partial_pair_at d) (pair_first d) n p ≡ (partial_item_at d p, Some (partial_item_at value.0 value.1)) ∷ until_broken (partial_pair_at d) (pair_first d) 0 q
pairs-last-value d n p q value h e f =
    let k = key-is d p value (item_first d p) refl e in
    let f2 : None ≡ next_at d (item_first d k.mid) = subst (λ (x : ℕ × Part). None ≡ next_at x.0 (item_first x.0 x.1)) k.same f in
    let no = none-is d (item_first d k.mid) f2 in
    let both : pair_first d p ≡ None = pair-no-value d p k.key k.mid k.first no in
    let seen_is : partial_value_at d (item_first d p) ≡ Some (partial_item_at value.0 value.1) = ap (partial_value_at d) k.first ∙ ap (λ (x : ℕ × Part). Some (partial_item_at x.0 x.1)) (sym k.same) in
    let rest_is : rest_if_whole (pair_first d p) (until_broken (partial_pair_at d) (pair_first d) (n - 1)) ≡ until_broken (partial_pair_at d) (pair_first d) 0 q = ap (λ (o : Option ((Part × Part) × Part)). rest_if_whole o (until_broken (partial_pair_at d) (pair_first d) (n - 1))) both ∙ sym (until-end (partial_pair_at d) (pair_first d) 0 q refl) in
    pairs-go d n p (Some (partial_item_at value.0 value.1)) (until_broken (partial_pair_at d) (pair_first d) 0 q) h seen_is rest_is

pub pairs-only-value : (d n : ℕ) (p q : Part) (value : ℕ × Part) → n ≡ 1 → Some value ≡ next_at d (item_first d p) → until_broken (partial_pair_at d) (pair_first d) n p ≡ (partial_item_at d p, Some (partial_item_at value.0 value.1)) ∷ until_broken (partial_pair_at d) (pair_first d) 0 q
pairs-only-value d n p q value h e =
    let some : 0 < n = omega arith in
    let none : n - 1 ≡ 0 = omega arith in
    let k = key-is d p value (item_first d p) refl e in
    let seen_is : partial_value_at d (item_first d p) ≡ Some (partial_item_at value.0 value.1) = ap (partial_value_at d) k.first ∙ ap (λ (x : ℕ × Part). Some (partial_item_at x.0 x.1)) (sym k.same) in
    let rest_is : rest_if_whole (pair_first d p) (until_broken (partial_pair_at d) (pair_first d) (n - 1)) ≡ until_broken (partial_pair_at d) (pair_first d) 0 q = nothing-follows (partial_pair_at d) (pair_first d) (n - 1) (pair_first d p) none ∙ sym (until-end (partial_pair_at d) (pair_first d) 0 q refl) in
    pairs-go d n p (Some (partial_item_at value.0 value.1)) (until_broken (partial_pair_at d) (pair_first d) 0 q) some seen_is rest_is

pub pairs-last-key : (d n : ℕ) (p q : Part) → 0 < n → None ≡ next_at d (item_first d p) → until_broken (partial_pair_at d) (pair_first d) n p ≡ (partial_item_at d p, None) ∷ until_broken (partial_pair_at d) (pair_first d) 0 q
pairs-last-key d n p q h e =
    let no = none-is d (item_first d p) e in
    let both : pair_first d p ≡ None = pair-no-key d p no in
    let rest_is : rest_if_whole (pair_first d p) (until_broken (partial_pair_at d) (pair_first d) (n - 1)) ≡ until_broken (partial_pair_at d) (pair_first d) 0 q = ap (λ (o : Option ((Part × Part) × Part)). rest_if_whole o (until_broken (partial_pair_at d) (pair_first d) (n - 1))) both ∙ sym (until-end (partial_pair_at d) (pair_first d) 0 q refl) in
    pairs-go d n p None (until_broken (partial_pair_at d) (pair_first d) 0 q) h (ap (partial_value_at d) no) rest_is

-- what one step of each iterator wants
pub ruleset partial_steps = (until-end)
