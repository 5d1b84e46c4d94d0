-- What `first_at` reads is an element, it reads each element, and what it tells is the first fault.
use Rattle.std.proofs.Common.{◌≡◌, ◌⊎◌, ℕ, zero, suc, ◌-◌, ◌%◌, ◌<◌, ◌^◌, ◌==◌, List, [], ◌∷◌, ◌++◌, length, take, drop, false, nat_lt, Result, Ok, Err, refl, sym, ap, ◌∙◌, subst, arith, inl, inr}
use Rattle.std.proofs.lemmas.Bool.{ltb-true, ltb-false, eqb-true, eqb-false}
use Rattle.std.proofs.lemmas.Bool.Decides.{nat_tests}
use Rattle.std.proofs.lemmas.List.{append_assoc, append-nil, length-append, take-append-drop, length-take-le}
use Rattle.std.proofs.Math.Seq.{take-append_seam, drop-append_seam}
use Rattle.der_view.specs.declared.der_kind.DerKind.{DerKind}
use Rattle.der_view.specs.declared.der_kind.DerKind.TheVariants.{Short, HighTag, Length, Trailing}
use Rattle.der_view.specs.Element.{IsTag, length_bytes, element, IsElement}
use Rattle.der_view.specs.Fault.{IsSome, EndsEarly, HasNoLength, HasFault}
use Rattle.der_view.specs.Reading.{◌>>=◌, length_at, body_at, first_at, reads}
use Rattle.der_view.proofs.Lengths.{AreBytes, bytes-behind, if-cases, LengthIs, LengthFault, Completed, some-is, length-again, length-sound, length-fault}

-- ---- what an `Ok` holds

abbrev pub First : Type 0
First = ℕ × List ℕ × List ℕ

abbrev pub found : ℕ → List ℕ → List ℕ → Result First DerKind
found tag body rest = Ok (tag, body, rest)

pub record Same (t u : ℕ) (b c r s : List ℕ) : Type 0 where
  pub tag : t ≡ u
  pub body : b ≡ c
  pub rest : r ≡ s

pub same-first : (t u : ℕ) (b c r s : List ℕ) → found t b r ≡ found u c s → Same t u b c r s
same-first t u b c r s e =
    let q : (t, b, r) ≡ (u, c, s) = cc in
    let f : First → ℕ = λ x. x.0 in
    let g : First → List ℕ = λ x. x.1 in
    let h : First → List ℕ = λ x. x.2 in
    record { tag = ap f q; body = ap g q; rest = ap h q }

-- what came before a step that was taken, or the fault
pub record Before {A B E : Type 0} (r : Result A E) (f : A → Result B E) (y : Result B E) : Type 0 where
  pub value : A
  pub before : r ≡ Ok value
  pub after : f value ≡ y

pub bind-cases : {A B E : Type 0} (r : Result A E) (f : A → Result B E) (y : Result B E) → (r >>= f) ≡ y → Before r f y ⊎ ((e : E) × (r ≡ Err e) × (Err e ≡ y))
bind-cases (Ok x) f y e = inl (record { value = x; before = refl; after = e })
bind-cases (Err d) f y e = inr (d, refl, e)

-- ---- an element is read

body-again : (tag : ℕ) (body rest : List ℕ) → body_at tag (length body) (body ++ rest) ≡ found tag body rest
body-again tag body rest =
    let t : nat_lt (length (body ++ rest)) (length body) ≡ false = grind (arith, nat_tests, length-append body rest) in
    rw t (rw (take-append_seam body rest, drop-append_seam body rest) refl)

pub first-again : (tag : ℕ) (body rest : List ℕ) → IsTag tag → first_at (element tag body ++ rest) ≡ found tag body rest
unfolding first_at
first-again tag body rest is =
    let t : (tag % 32 == 31) ≡ false = grind (arith, nat_tests) in
    let n = length body in
    let e : length_at ((length_bytes n ++ body) ++ rest) ≡ Ok (n, body ++ rest) = ap length_at (append_assoc (length_bytes n) body rest) ∙ length-again n (body ++ rest) in
    rw t (rw e (body-again tag body rest))

-- ---- what was read is an element

pub record FirstIs (bytes : List ℕ) (tag : ℕ) (body rest : List ℕ) : Type 0 where
  pub is : IsElement (element tag body) tag body
  pub whole : bytes ≡ element tag body ++ rest

pub body-sound : (t tag n : ℕ) (bytes body rest : List ℕ) → body_at t n bytes ≡ found tag body rest → (t ≡ tag) × (length body ≡ n) × (bytes ≡ body ++ rest)
body-sound t tag n bytes body rest e = elim (if-cases (nat_lt (length bytes) n) (Err Short) (found t (take n bytes) (drop n bytes)) (found tag body rest) e) [
  | inl h ↦ absurd (cc)
  | inr h ↦
      let s = same-first t tag (take n bytes) body (drop n bytes) rest h.1 in
      let l = ltb-false (length bytes) n h.0 in
      (s.tag, ap length (sym s.body) ∙ length-take-le n bytes l, sym (take-append-drop n bytes) ∙ ap (λ x. x ++ drop n bytes) s.body ∙ ap (λ x. body ++ x) s.rest)
]

abbrev pub after_tag : ℕ → ℕ × List ℕ → Result First DerKind
after_tag tag x = body_at tag x.0 x.1

pub first-sound : (bytes : List ℕ) (tag : ℕ) (body rest : List ℕ) → AreBytes bytes → first_at bytes ≡ found tag body rest → FirstIs bytes tag body rest
unfolding first_at
first-sound [] tag body rest are e = absurd (cc)
first-sound (t ∷ bytes) tag body rest are e = elim (if-cases (t % 32 == 31) (Err HighTag) (length_at bytes >>= after_tag t) (found tag body rest) e) [
  | inl h ↦ absurd (cc)
  | inr h ↦ elim (bind-cases (length_at bytes) (after_tag t) (found tag body rest) h.1) [
    | inl b ↦
        let s = body-sound t tag b.value.0 b.value.1 body rest b.after in
        let l = length-sound bytes b.value.1 b.value.0 (bytes-behind (t ∷ []) bytes are) b.before in
        let low : t < 256 = are.each 0 in
        let ends : t % 32 ≡ 31 → ⊥ = eqb-false (t % 32) 31 h.0 in
        let own : IsTag t = (low, grind (arith, nat_tests)) in
        let behind : bytes ≡ (length_bytes (length body) ++ body) ++ rest =
        l.whole ∙ ap (λ x. length_bytes b.value.0 ++ x) s.2 ∙ ap (λ k. length_bytes k ++ (body ++ rest)) (sym s.1) ∙ sym (append_assoc (length_bytes (length body)) body rest) in
        record {
          is = record { is_tag = subst IsTag s.0 own; fits = subst (λ k. k < 2 ^ 32) (sym s.1) l.small; spelled = refl };
          whole = ap (λ x. t ∷ x) behind ∙ ap (λ k. k ∷ ((length_bytes (length body) ++ body) ++ rest)) s.0;
        }
    | inr b ↦ absurd (let z = b.2 in cc)
  ]
]

-- ---- what is reported is the first fault

-- so many bytes of 0
zeros : ℕ → List ℕ
zeros zero = []
zeros (suc n) = 0 ∷ zeros n

length-zeros : (n : ℕ) → length (zeros n) ≡ n
unfolding zeros
length-zeros zero = refl
length-zeros (suc n) = ap suc (length-zeros n)

some-longer : (xs : List ℕ) → 0 < length xs → IsSome xs
some-longer xs l e = let z : length xs ≡ 0 = ap length e in omega arith

some-front : (xs ys : List ℕ) → IsSome xs → IsSome (xs ++ ys)
some-front [] ys s = absurd (s refl)
some-front (x ∷ xs) ys s = some-is x (xs ++ ys)

length-missing : (tag : ℕ) (bytes : List ℕ) → IsTag tag → Completed bytes → EndsEarly (tag ∷ bytes)
length-missing tag bytes is c = record {
  tag = tag;
  body = zeros c.n;
  missing = c.missing ++ zeros c.n;
  some = some-front c.missing (zeros c.n) c.some;
  is = record {
    is_tag = is;
    fits = subst (λ k. k < 2 ^ 32) (sym (length-zeros c.n)) c.small;
    spelled = ap (λ x. tag ∷ x) (sym (append_assoc bytes c.missing (zeros c.n)) ∙ ap (λ x. x ++ zeros c.n) c.whole ∙ ap (λ k. length_bytes k ++ zeros c.n) (sym (length-zeros c.n)));
  };
}

body-missing : (tag n : ℕ) (bytes rest : List ℕ) → IsTag tag → LengthIs bytes n rest → length rest < n → EndsEarly (tag ∷ bytes)
body-missing tag n bytes rest is l h =
    let more = zeros (n - length rest) in
    let len : length more ≡ n - length rest = length-zeros (n - length rest) in
    let all : length (rest ++ more) ≡ n = omega (arith, len, length-append rest more) in
    record {
      tag = tag;
      body = rest ++ more;
      missing = more;
      some = some-longer more (omega arith);
      is = record {
        is_tag = is;
        fits = subst (λ k. k < 2 ^ 32) (sym all) l.small;
        spelled = ap (λ x. tag ∷ (x ++ more)) l.whole ∙ ap (λ x. tag ∷ x) (append_assoc (length_bytes n) rest more) ∙ ap (λ k. tag ∷ (length_bytes k ++ (rest ++ more))) (sym all);
      };
    }

no-length : (tag : ℕ) (bytes : List ℕ) → IsTag tag → LengthFault bytes Length → HasNoLength (tag ∷ bytes)
no-length tag bytes is f = record {
  tag = tag;
  rest = bytes;
  is_tag = is;
  whole = refl;
  none = λ n xs ys small e. (let a = f xs in let b = ap length_at e ∙ length-again n ys in cc);
}

by-length : (tag : ℕ) (bytes : List ℕ) (kind : DerKind) → IsTag tag → LengthFault bytes kind → HasFault kind 0 (tag ∷ bytes)
by-length tag bytes Short is f = (refl, length-missing tag bytes is f)
by-length tag bytes HighTag is f = absurd f
by-length tag bytes Length is f = (refl, no-length tag bytes is f)
by-length tag bytes Trailing is f = absurd f

by-body : (tag : ℕ) (bytes rest : List ℕ) (n : ℕ) (kind : DerKind) → IsTag tag → LengthIs bytes n rest → body_at tag n rest ≡ Err kind → HasFault kind 0 (tag ∷ bytes)
by-body tag bytes rest n kind is l e = elim (if-cases (nat_lt (length rest) n) (Err Short) (found tag (take n rest) (drop n rest)) (Err kind) e) [
  | inl h ↦ let q : Short ≡ kind = cc in subst (λ k. HasFault k 0 (tag ∷ bytes)) q (refl, body-missing tag n bytes rest is l (ltb-true (length rest) n h.0))
  | inr h ↦ absurd (cc)
]

empty-short : EndsEarly []
empty-short = record { tag = 0; body = []; missing = 0 ∷ (0 ∷ []); some = some-is 0 (0 ∷ []); is = record { is_tag = (omega arith, omega arith); fits = omega arith; spelled = refl } }

pub first-fault : (bytes : List ℕ) (kind : DerKind) → AreBytes bytes → first_at bytes ≡ Err kind → HasFault kind 0 bytes
unfolding first_at
first-fault [] kind are e = let q : Short ≡ kind = cc in subst (λ k. HasFault k 0 []) q (refl, empty-short)
first-fault (t ∷ bytes) kind are e = elim (if-cases (t % 32 == 31) (Err HighTag) (length_at bytes >>= after_tag t) (Err kind) e) [
  | inl h ↦ let q : HighTag ≡ kind = cc in subst (λ k. HasFault k 0 (t ∷ bytes)) q (refl, record { tag = t; rest = bytes; high = eqb-true (t % 32) 31 h.0; whole = refl })
  | inr h ↦
      let low : t < 256 = are.each 0 in
      let ends : t % 32 ≡ 31 → ⊥ = eqb-false (t % 32) 31 h.0 in
      let own : IsTag t = (low, grind (arith, nat_tests)) in
      let others = bytes-behind (t ∷ []) bytes are in
      elim (bind-cases (length_at bytes) (after_tag t) (Err kind) h.1) [
        | inl b ↦ by-body t bytes b.value.1 b.value.0 kind own (length-sound bytes b.value.1 b.value.0 others b.before) b.after
        | inr b ↦ let q : b.0 ≡ kind = (let z = b.2 in cc) in by-length t bytes kind own (length-fault bytes kind others (b.1 ∙ ap (λ k. Err k) q))
      ]
]

-- ---- all of the bytes

reads-found : (bytes : List ℕ) (tag : ℕ) (body : List ℕ) → first_at bytes ≡ found tag body [] → reads bytes ≡ Ok (tag, body)
unfolding reads
reads-found bytes tag body e = rw e refl

pub element-reads : (tag : ℕ) (body : List ℕ) → IsTag tag → reads (element tag body) ≡ Ok (tag, body)
element-reads tag body is = reads-found (element tag body) tag body (ap first_at (sym (append-nil (element tag body))) ∙ first-again tag body [] is)
