-- The element at the front of bytes as a part, and the parts that follow one another.
use Rattle.std.proofs.Common.{◌≡◌, ℕ, zero, suc, ◌+◌, ◌-◌, ◌%◌, ◌<◌, ◌≤◌, ◌==◌, if◌then◌else◌, List, [], ◌∷◌, ◌++◌, length, take, drop, true, false, Result, Ok, Err, refl, sym, ap, ◌∙◌, subst, arith, inl, inr, IsOk, is_ok}
use Rattle.std.proofs.lemmas.Bool.{eqb-true, eqb-false}
use Rattle.std.proofs.lemmas.Bool.Decides.{nat_tests}
use Rattle.std.proofs.lemmas.List.{append-nil, length-append}
use Rattle.std.proofs.Math.Seq.{take-append_seam, drop-append_seam}
use Rattle.der_view.specs.declared.der_kind.DerKind.{DerKind}
use Rattle.der_view.specs.declared.der_kind.DerKind.TheVariants.{HighTag, Trailing}
use Rattle.der_view.specs.declared.der_fault.DerFault.{DerFault}
use Rattle.der_view.specs.Element.{length_bytes, element, IsElement}
use Rattle.der_view.specs.Fault.{GoesOn, HasFault, IsFault}
use Rattle.der_view.specs.Reading.{◌>>=◌, length_at, first_at, alone, reads, tag_of, body_of, tag_or_zero, body_or_none}
use Rattle.der_view.specs.Parts.{Part, behind, AreParts, der, parted, first_part, with_others, parts_up_to, parts_at}
use Rattle.der_view.proofs.Lengths.{AreBytes, bytes-behind, bytes-before, if-cases, length-shorter}
use Rattle.der_view.proofs.Elements.{First, found, bind-cases, after_tag, body-sound, first-sound, first-fault, element-reads}

-- ---- the element at the front

pub record Front (bytes : List ℕ) (tag : ℕ) (body rest : List ℕ) : Type 0 where
  pub within : length rest ≤ length bytes
  pub front : take (length bytes - length rest) bytes ≡ element tag body
  pub is : IsElement (element tag body) tag body
  pub whole : bytes ≡ element tag body ++ rest
  pub reads_is : reads (element tag body) ≡ Ok (tag, body)

pub front-is : (bytes : List ℕ) (tag : ℕ) (body rest : List ℕ) → AreBytes bytes → first_at bytes ≡ found tag body rest → Front bytes tag body rest
front-is bytes tag body rest are e =
    let s = first-sound bytes tag body rest are e in
    let n : length bytes ≡ length (element tag body) + length rest = ap length s.whole ∙ length-append (element tag body) rest in
    let k : length bytes - length rest ≡ length (element tag body) = omega (arith, n) in
    record {
      within = omega (arith, n);
      front = ap (λ x. take (length bytes - length rest) x) s.whole ∙ ap (λ m. take m (element tag body ++ rest)) k ∙ take-append_seam (element tag body) rest;
      is = s.is;
      whole = s.whole;
      reads_is = element-reads tag body s.is.is_tag;
    }

pub front-ok : (bytes : List ℕ) (tag : ℕ) (body rest : List ℕ) → AreBytes bytes → first_at bytes ≡ found tag body rest → IsOk (reads (take (length bytes - length rest) bytes))
front-ok bytes tag body rest are e = let f = front-is bytes tag body rest are e in ap (λ x. is_ok (reads x)) f.front ∙ ap is_ok f.reads_is

-- ---- an element that was read

nothing : (xs : List ℕ) → length xs ≡ 0 → xs ≡ []
nothing [] e = refl
nothing (x ∷ xs) e = absurd (omega arith)

alone-ok : (len : ℕ) (tag : ℕ) (body rest : List ℕ) → is_ok (alone len (found tag body rest)) ≡ true → rest ≡ []
alone-ok len tag body rest ok = elim (length rest == 0) as (λ b. (length rest == 0) ≡ b → rest ≡ []) [
  | true ↦ λ t. nothing rest (eqb-true (length rest) 0 t)
  | false ↦ λ t. absurd (let z : is_ok (alone len (found tag body rest)) ≡ false = rw t refl in cc)
] refl

pub read-rest : (bytes : List ℕ) (tag : ℕ) (body rest : List ℕ) → IsOk (reads bytes) → first_at bytes ≡ found tag body rest → rest ≡ []
unfolding reads
read-rest bytes tag body rest ok e = alone-ok (length bytes) tag body rest (ap (λ r. is_ok (alone (length bytes) r)) (sym e) ∙ ok)

pub read-found : (bytes : List ℕ) (tag : ℕ) (body rest : List ℕ) → IsOk (reads bytes) → first_at bytes ≡ found tag body rest → reads bytes ≡ Ok (tag, body)
unfolding reads
read-found bytes tag body rest ok e =
    let r = read-rest bytes tag body rest ok e in
    rw (e ∙ ap (λ x. found tag body x) r) refl

pub read-fault : (bytes : List ℕ) (kind : DerKind) → IsOk (reads bytes) → first_at bytes ≡ Err kind → ⊥
unfolding reads
read-fault bytes kind ok e = let z : is_ok (reads bytes) ≡ false = rw e refl in cc

pub body-within : (bytes : List ℕ) (tag : ℕ) (body rest : List ℕ) → AreBytes bytes → first_at bytes ≡ found tag body rest → (length body ≤ length bytes) × AreBytes body
body-within bytes tag body rest are e =
    let f = front-is bytes tag body rest are e in
    let n : length bytes ≡ length (element tag body) + length rest = ap length f.whole ∙ length-append (element tag body) rest in
    let l = length-append (length_bytes (length body)) body in
    let own = bytes-before (element tag body) rest (subst AreBytes f.whole are) in
    (omega (arith, n, l), bytes-behind (tag ∷ length_bytes (length body)) body own)

pub tag-read : (bytes : List ℕ) (tag : ℕ) (body : List ℕ) → reads bytes ≡ Ok (tag, body) → tag_of bytes ≡ tag
unfolding tag_of
tag-read bytes tag body e = ap tag_or_zero e

pub body-read : (bytes : List ℕ) (tag : ℕ) (body : List ℕ) → reads bytes ≡ Ok (tag, body) → body_of bytes ≡ body
unfolding body_of
body-read bytes tag body e = ap body_or_none e

-- ---- the same as a part

pub record PartIs (p : Part) (r : Result First DerKind) (q : Part) (rest : List ℕ) : Type 0 where
  pub tag : ℕ
  pub body : List ℕ
  pub first : r ≡ found tag body rest
  pub at : q.at ≡ p.at
  pub bytes : q.bytes ≡ take (length p.bytes - length rest) p.bytes

abbrev parts_ok : Part → List ℕ → Result (Part × List ℕ) DerFault
parts_ok q rest = Ok (q, rest)

part-is : (p : Part) (r : Result First DerKind) (q : Part) (rest : List ℕ) → parted p r ≡ parts_ok q rest → PartIs p r q rest
part-is p (Ok x) q rest e =
    let own : Part = record { at = p.at; bytes = take (length p.bytes - length x.2) p.bytes } in
    let same : (own, x.2) ≡ (q, rest) = cc in
    let f : Part × List ℕ → Part = λ y. y.0 in
    let g : Part × List ℕ → List ℕ = λ y. y.1 in
    let h : Part → ℕ = λ y. y.at in
    let k : Part → List ℕ = λ y. y.bytes in
    let parts = ap f same in
    let rests = ap g same in
    record {
      tag = x.0;
      body = x.1;
      first = ap (λ y. found x.0 x.1 y) rests;
      at = sym (ap h parts);
      bytes = sym (ap k parts) ∙ ap (λ y. take (length p.bytes - length y) p.bytes) rests;
    }
part-is p (Err kind) q rest e = absurd (cc)

pub record FrontPart (p q : Part) (rest : List ℕ) : Type 0 where
  pub tag : ℕ
  pub body : List ℕ
  pub first : first_at p.bytes ≡ found tag body rest
  pub at : q.at ≡ p.at
  pub is : IsElement q.bytes tag body
  pub whole : p.bytes ≡ q.bytes ++ rest
  pub reads_is : reads q.bytes ≡ Ok (tag, body)

pub front-part : (p q : Part) (rest : List ℕ) → AreBytes p.bytes → first_part p ≡ parts_ok q rest → FrontPart p q rest
front-part p q rest are e =
    let i = part-is p (first_at p.bytes) q rest e in
    let f = front-is p.bytes i.tag i.body rest are i.first in
    let b : q.bytes ≡ element i.tag i.body = i.bytes ∙ f.front in
    record {
      tag = i.tag;
      body = i.body;
      first = i.first;
      at = i.at;
      is = subst (λ x. IsElement x i.tag i.body) (sym b) f.is;
      whole = f.whole ∙ ap (λ x. x ++ rest) (sym b);
      reads_is = ap reads b ∙ f.reads_is;
    }

pub record PartFault (p : Part) (r : Result First DerKind) (fault : DerFault) : Type 0 where
  pub first : r ≡ Err fault.kind
  pub at : fault.at ≡ p.at

part-fault : (p : Part) (r : Result First DerKind) (fault : DerFault) → parted p r ≡ Err fault → PartFault p r fault
part-fault p (Ok x) fault e = absurd (cc)
part-fault p (Err kind) fault e =
    let own : DerFault = record { kind = kind; at = p.at } in
    let same : own ≡ fault = cc in
    let f : DerFault → DerKind = λ y. y.kind in
    let g : DerFault → ℕ = λ y. y.at in
    record { first = ap (λ k. Err k) (ap f same); at = sym (ap g same) }

pub front-fault : (p : Part) (fault : DerFault) → AreBytes p.bytes → first_part p ≡ Err fault → (fault.at ≡ p.at) × HasFault fault.kind 0 p.bytes
front-fault p fault are e = let f = part-fault p (first_at p.bytes) fault e in (f.at, first-fault p.bytes fault.kind are f.first)

-- ---- all of the bytes

abbrev from_start : List ℕ → Part
from_start bytes = record { at = 0; bytes = bytes }

pub whole-exact : (bytes rest : List ℕ) (q : Part) → AreBytes bytes → first_part (from_start bytes) ≡ parts_ok q rest → length rest < 1 → IsElement bytes (tag_of q.bytes) (body_of q.bytes)
whole-exact bytes rest q are e l =
    let f = front-part (from_start bytes) q rest are e in
    let n = nothing rest (omega arith) in
    let same : bytes ≡ q.bytes = f.whole ∙ ap (λ x. q.bytes ++ x) n ∙ append-nil q.bytes in
    subst (λ x. IsElement x (tag_of q.bytes) (body_of q.bytes)) (sym same)
    (subst (λ t. IsElement q.bytes t (body_of q.bytes)) (sym (tag-read q.bytes f.tag f.body f.reads_is))
    (subst (λ b. IsElement q.bytes f.tag b) (sym (body-read q.bytes f.tag f.body f.reads_is)) f.is))

pub goes-on : (bytes rest : List ℕ) (q : Part) → AreBytes bytes → first_part (from_start bytes) ≡ parts_ok q rest → 1 ≤ length rest → GoesOn bytes (length q.bytes)
goes-on bytes rest q are e l =
    let f = front-part (from_start bytes) q rest are e in
    record { tag = f.tag; body = f.body; front = q.bytes; rest = rest; is = f.is; some = λ z. (let k : length rest ≡ 0 = ap length z in omega arith); whole = f.whole; place = refl }

pub der-goes-on : (bytes rest : List ℕ) (q : Part) → AreBytes bytes → first_part (from_start bytes) ≡ parts_ok q rest → 1 ≤ length rest → der bytes ≡ Err (record { kind = Trailing; at = length q.bytes })
unfolding reads
der-goes-on bytes rest q are e l =
    let f = front-part (from_start bytes) q rest are e in
    let t : (length rest == 0) ≡ false = grind (arith, nat_tests) in
    let n : length bytes ≡ length q.bytes + length rest = ap length f.whole ∙ length-append q.bytes rest in
    let k : length bytes - length rest ≡ length q.bytes = omega (arith, n) in
    let make : ℕ → DerFault = λ a. record { kind = Trailing; at = a } in
    rw f.first (rw t (ap (λ a. Err (make a)) k))

pub whole-fault : (bytes : List ℕ) (fault : DerFault) → AreBytes bytes → first_part (from_start bytes) ≡ Err fault → IsFault bytes fault
whole-fault bytes fault are e = let f = front-fault (from_start bytes) fault are e in subst (λ a. HasFault fault.kind a bytes) (sym f.0) f.1

pub der-fault : (bytes : List ℕ) (fault : DerFault) → first_part (from_start bytes) ≡ Err fault → der bytes ≡ Err fault
unfolding reads
der-fault bytes fault e =
    let f = part-fault (from_start bytes) (first_at bytes) fault e in
    let make : ℕ → DerFault = λ a. record { kind = fault.kind; at = a } in
    rw f.first (ap (λ a. Err (make a)) (sym f.at))

-- ---- the parts, one after another

abbrev beyond : Part × List ℕ → Part
beyond x = record { at = x.0.at + length x.0.bytes; bytes = x.1 }

first-shorter : (bytes : List ℕ) (tag : ℕ) (body rest : List ℕ) → first_at bytes ≡ found tag body rest → length rest < length bytes
unfolding first_at
first-shorter [] tag body rest e = absurd (cc)
first-shorter (t ∷ bytes) tag body rest e = elim (if-cases (t % 32 == 31) (Err HighTag) (length_at bytes >>= after_tag t) (found tag body rest) e) [
  | inl h ↦ absurd (cc)
  | inr h ↦ elim (bind-cases (length_at bytes) (after_tag t) (found tag body rest) h.1) [
    | inl b ↦
        let s = body-sound t tag b.value.0 b.value.1 body rest b.after in
        let l = length-shorter bytes b.value.1 b.value.0 b.before in
        omega (arith, l, ap length s.2, length-append body rest)
    | inr b ↦ absurd (let z = b.2 in cc)
  ]
]

beyond-shorter : (p : Part) (x : Part × List ℕ) → first_part p ≡ Ok x → length x.1 < length p.bytes
beyond-shorter p x e = let i = part-is p (first_at p.bytes) x.0 x.1 e in first-shorter p.bytes i.tag i.body x.1 i.first

-- two ways to go on that agree on shorter parts
same-others : (f g : Part → List (Result Part DerFault)) (p : Part) (r : Result (Part × List ℕ) DerFault) → ((q : Part) → length q.bytes < length p.bytes → f q ≡ g q) → first_part p ≡ r → with_others f r ≡ with_others g r
same-others f g p (Ok x) s e = ap (λ xs. Ok x.0 ∷ xs) (s (beyond x) (beyond-shorter p x e))
same-others f g p (Err fault) s e = refl

enough : (n m : ℕ) (p : Part) → length p.bytes ≤ n → length p.bytes ≤ m → parts_up_to n p ≡ parts_up_to m p
unfolding parts_up_to
enough zero zero p k l = refl
enough zero (suc m) p k l = let t : (length p.bytes == 0) ≡ true = grind (arith, nat_tests) in rw t refl
enough (suc n) zero p k l = let t : (length p.bytes == 0) ≡ true = grind (arith, nat_tests) in rw t refl
enough (suc n) (suc m) p k l = ap (λ xs. if length p.bytes == 0 then [] else xs) (same-others (parts_up_to n) (parts_up_to m) p (first_part p) (λ q h. enough n m q (omega arith) (omega arith)) refl)

step-of : (n : ℕ) (p : Part) → length p.bytes ≡ n → 0 < n → parts_up_to n p ≡ with_others parts_at (first_part p)
unfolding parts_up_to parts_at
step-of zero p e l = absurd (omega arith)
step-of (suc n) p e l =
    let t : (length p.bytes == 0) ≡ false = grind (arith, nat_tests) in
    rw t (same-others (parts_up_to n) parts_at p (first_part p) (λ q h. enough n (length q.bytes) q (omega arith) (omega arith)) refl)

pub parts-step : (p : Part) → 0 < length p.bytes → parts_at p ≡ with_others parts_at (first_part p)
unfolding parts_at
parts-step p l = step-of (length p.bytes) p refl l

end-of : (n : ℕ) (p : Part) → length p.bytes ≡ n → n ≡ 0 → parts_up_to n p ≡ []
unfolding parts_up_to
end-of zero p e z = refl
end-of (suc n) p e z = absurd (omega arith)

pub parts-end : (p : Part) → length p.bytes ≡ 0 → parts_at p ≡ []
unfolding parts_at
parts-end p z = end-of (length p.bytes) p refl z

-- what a step of the iterator wants
pub ruleset part_steps = (parts-step, parts-end)

-- ---- they are the parts

others-are : (f : Part → List (Result Part DerFault)) (p : Part) (r : Result (Part × List ℕ) DerFault) → AreBytes p.bytes → 0 < length p.bytes → ((q : Part) → length q.bytes < length p.bytes → AreBytes q.bytes → AreParts q (f q)) → first_part p ≡ r → AreParts p (with_others f r)
others-are f p (Ok x) are l each e =
    let i = front-part p x.0 x.1 are e in
    let d : drop (length x.0.bytes) p.bytes ≡ x.1 = ap (drop (length x.0.bytes)) i.whole ∙ drop-append_seam x.0.bytes x.1 in
    let make : ℕ → List ℕ → Part = λ a b. record { at = a; bytes = b } in
    let same : beyond x ≡ behind (length x.0.bytes) p = ap (λ a. make (a + length x.0.bytes) x.1) i.at ∙ ap (λ b. make (p.at + length x.0.bytes) b) (sym d) in
    let others = each (beyond x) (beyond-shorter p x e) (bytes-behind x.0.bytes x.1 (subst AreBytes i.whole are)) in
    (record { tag = i.tag; body = i.body; is = i.is; place = i.at; whole = i.whole ∙ ap (λ b. x.0.bytes ++ b) (sym d) }, subst (λ q. AreParts q (f (beyond x))) same others)
others-are f p (Err fault) are l each e =
    let h = front-fault p fault are e in
    (λ z. (let k : length p.bytes ≡ 0 = ap length z in omega arith), h.0, h.1)

parts-are-of : (n : ℕ) (p : Part) → length p.bytes ≤ n → AreBytes p.bytes → AreParts p (parts_up_to n p)
unfolding parts_up_to
parts-are-of zero p l are = nothing p.bytes (omega arith)
parts-are-of (suc n) p l are = elim (length p.bytes == 0) as (λ b. (length p.bytes == 0) ≡ b → AreParts p (if b then [] else with_others (parts_up_to n) (first_part p))) [
  | true ↦ λ t. nothing p.bytes (eqb-true (length p.bytes) 0 t)
  | false ↦ λ t. (let some = eqb-false (length p.bytes) 0 t in others-are (parts_up_to n) p (first_part p) are (omega arith) (λ q h own. parts-are-of n q (omega arith) own) refl)
] refl

pub parts-are : (p : Part) → AreBytes p.bytes → AreParts p (parts_at p)
unfolding parts_at
parts-are p are = parts-are-of (length p.bytes) p (omega arith) are
