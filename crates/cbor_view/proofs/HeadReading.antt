-- What `head_at` reads is a head of that kind, and it reads each such head.
use Rattle.std.proofs.Common.{◌≡◌, ◌⊎◌, ℕ, zero, suc, ◌+◌, ◌*◌, ◌/◌, ◌%◌, ◌<◌, ◌≤◌, ◌^◌, ◌==◌, if◌then◌else◌, List, [], ◌∷◌, ◌++◌, length, take, drop, get_or, Bool, true, false, nat_lt, Result, Ok, Err, refl, sym, ap, ◌∙◌, subst, arith, inl, inr}
use Rattle.std.specs.Int.{Width, byte_len, w8, w16, w32, w64, to_be_bytes, from_be_bytes}
use Rattle.std.proofs.lemmas.Bool.{ltb-true, ltb-false, eqb-true}
use Rattle.std.proofs.lemmas.Bool.Decides.{nat_tests}
use Rattle.std.proofs.lemmas.List.{take-append-drop, length-take-le}
use Rattle.std.proofs.lemmas.Nat.{from_be_bytes-to_be_bytes_2, from_be_bytes-to_be_bytes_4, from_be_bytes-to_be_bytes_8, be_bytes_2, be_bytes_4, be_bytes_8}
use Rattle.cbor_view.specs.declared.cbor_kind.CborKind.{CborKind}
use Rattle.cbor_view.specs.declared.cbor_kind.CborKind.TheVariants.{Truncated, Reserved}
use Rattle.cbor_view.specs.declared.heads.Head.{Head}
use Rattle.cbor_view.specs.declared.heads.Head.TheVariants as heads
use Rattle.cbor_view.specs.Spelling.{Form, Within, One, Two, Four, Eight, limit, information, argument, head, IsHead, IsSimple, IsFloat}
use Rattle.cbor_view.specs.Reading.{◌>>=◌, number_at, argument_at, endless, simple_or_float, kind_of, head_at}

-- each number of the list is a byte
pub record AreBytes (bytes : List ℕ) : Type 0 where
  pub each : (i : ℕ) → get_or bytes i 0 < 256

pub AreBytes-after : (front rest : List ℕ) → AreBytes (front ++ rest) → AreBytes rest
AreBytes-after [] rest h = h
AreBytes-after (x ∷ xs) rest h = AreBytes-after xs rest (record { each = λ i. h.each (suc i) })

pub front-each : (front rest : List ℕ) → AreBytes (front ++ rest) → (i : ℕ) → get_or front i 0 < 256
front-each [] rest h i = omega arith
front-each (x ∷ xs) rest h zero = h.each 0
front-each (x ∷ xs) rest h (suc i) = front-each xs rest (record { each = λ k. h.each (suc k) }) i

-- ---- numbers

number-again_1 : (n : ℕ) (rest : List ℕ) → n < 2 ^ 8 → number_at w8 (to_be_bytes w8 n ++ rest) ≡ Ok (n, rest)
number-again_1 n rest h = let t : nat_lt (suc (length rest)) 1 ≡ false = grind (arith, nat_tests) in let m : n % 256 ≡ n = grind arith in rw t (rw m refl)

number-again_2 : (n : ℕ) (rest : List ℕ) → n < 2 ^ 16 → number_at w16 (to_be_bytes w16 n ++ rest) ≡ Ok (n, rest)
number-again_2 n rest h = let t : nat_lt (suc (suc (length rest))) 2 ≡ false = grind (arith, nat_tests) in rw t (ap (λ m. Ok (m, rest)) (from_be_bytes-to_be_bytes_2 n h))

number-again_4 : (n : ℕ) (rest : List ℕ) → n < 2 ^ 32 → number_at w32 (to_be_bytes w32 n ++ rest) ≡ Ok (n, rest)
number-again_4 n rest h = let t : nat_lt (suc (suc (suc (suc (length rest))))) 4 ≡ false = grind (arith, nat_tests) in rw t (ap (λ m. Ok (m, rest)) (from_be_bytes-to_be_bytes_4 n h))

number-again_8 : (n : ℕ) (rest : List ℕ) → n < 2 ^ 64 → number_at w64 (to_be_bytes w64 n ++ rest) ≡ Ok (n, rest)
number-again_8 n rest h = let t : nat_lt (suc (suc (suc (suc (suc (suc (suc (suc (length rest))))))))) 8 ≡ false = grind (arith, nat_tests) in rw t (ap (λ m. Ok (m, rest)) (from_be_bytes-to_be_bytes_8 n h))

pub argument-again : (form : Form) (n : ℕ) (rest : List ℕ) → n < limit form → argument_at (information form n) (argument form n ++ rest) ≡ Ok (n, rest)
argument-again Within n rest h = let t : nat_lt n 24 ≡ true = grind (arith, nat_tests) in rw t refl
argument-again One n rest h = number-again_1 n rest h
argument-again Two n rest h = number-again_2 n rest h
argument-again Four n rest h = number-again_4 n rest h
argument-again Eight n rest h = number-again_8 n rest h

not_endless : (form : Form) (n : ℕ) → n < limit form → (information form n == 31) ≡ false
not_endless Within n h = grind (arith, nat_tests)
not_endless One n h = refl
not_endless Two n h = refl
not_endless Four n h = refl
not_endless Eight n h = refl

small : (form : Form) (n : ℕ) → n < limit form → information form n < 32
small Within n h = omega arith
small One n h = omega arith
small Two n h = omega arith
small Four n h = omega arith
small Eight n h = omega arith

pub head-again : (form : Form) (major n : ℕ) (rest : List ℕ) → n < limit form → head_at (head form major n ++ rest) ≡ (kind_of major (information form n) n >>= λ h. Ok (h, rest))
unfolding head_at
head-again form major n rest h =
    let s = small form n h in
    let q : (32 * major + information form n) / 32 ≡ major = omega arith in
    let r : (32 * major + information form n) % 32 ≡ information form n = omega arith in
    rw (q, r) (rw (not_endless form n h) (rw (argument-again form n rest h) refl))

-- ---- what a head is, by its kind

abbrev pub HeadOf : Head → List ℕ → Type 0
HeadOf (heads.Unsigned n) front = IsHead 0 n front
HeadOf (heads.Negative n) front = IsHead 1 n front
HeadOf (heads.Bytes n) front = IsHead 2 n front
HeadOf (heads.Text n) front = IsHead 3 n front
HeadOf (heads.Array n) front = IsHead 4 n front
HeadOf (heads.Map n) front = IsHead 5 n front
HeadOf (heads.Tag n) front = IsHead 6 n front
HeadOf (heads.Simple n) front = IsSimple n front
HeadOf (heads.Float w n) front = IsFloat w n front

-- a head of each kind is read
pub typed-again : (h : Head) (front rest : List ℕ) → HeadOf h front → head_at (front ++ rest) ≡ Ok (h, rest)
typed-again (heads.Unsigned n) front rest is = rw is.spelled (head-again is.form 0 n rest is.holds)
typed-again (heads.Negative n) front rest is = rw is.spelled (head-again is.form 1 n rest is.holds)
typed-again (heads.Bytes n) front rest is = rw is.spelled (head-again is.form 2 n rest is.holds)
typed-again (heads.Text n) front rest is = rw is.spelled (head-again is.form 3 n rest is.holds)
typed-again (heads.Array n) front rest is = rw is.spelled (head-again is.form 4 n rest is.holds)
typed-again (heads.Map n) front rest is = rw is.spelled (head-again is.form 5 n rest is.holds)
typed-again (heads.Tag n) front rest is = rw is.spelled (head-again is.form 6 n rest is.holds)
typed-again (heads.Simple n) front rest (inl is) = let t : nat_lt n 24 ≡ true = grind (arith, nat_tests) in rw is.1 (head-again Within 7 n rest is.0 ∙ rw t refl)
typed-again (heads.Simple n) front rest (inr is) = let t : nat_lt n 32 ≡ false = grind (arith, nat_tests) in rw is.2 (head-again One 7 n rest is.1 ∙ rw t refl)
typed-again (heads.Float w n) front rest (inl is) = rw is.2 (head-again Two 7 n rest is.1 ∙ ap (λ k. Ok (heads.Float k n, rest)) (sym is.0))
typed-again (heads.Float w n) front rest (inr (inl is)) = rw is.2 (head-again Four 7 n rest is.1 ∙ ap (λ k. Ok (heads.Float k n, rest)) (sym is.0))
typed-again (heads.Float w n) front rest (inr (inr is)) = rw is.2 (head-again Eight 7 n rest is.1 ∙ ap (λ k. Ok (heads.Float k n, rest)) (sym is.0))

-- ---- what was read is a head

-- what an `Ok` holds
pub first-same : {A B E : Type 0} (x y : A × B) → ◌≡◌ {A = Result (A × B) E} (Ok x) (Ok y) → x.0 ≡ y.0
first-same {A} {B} x y e = let q : x ≡ y = cc in let f : A × B → A = λ p. p.0 in ap f q

pub second-same : {A B E : Type 0} (x y : A × B) → ◌≡◌ {A = Result (A × B) E} (Ok x) (Ok y) → x.1 ≡ y.1
second-same {A} {B} x y e = let q : x ≡ y = cc in let f : A × B → B = λ p. p.1 in ap f q

abbrev number_if : Bool → Width → List ℕ → Result (ℕ × List ℕ) CborKind
number_if b w bytes = if b then Err Truncated else Ok (from_be_bytes w (take (byte_len w) bytes), drop (byte_len w) bytes)

abbrev read : ℕ → List ℕ → Result (ℕ × List ℕ) CborKind
read n rest = Ok (n, rest)

pub bound_1 : (xs : List ℕ) → ((i : ℕ) → get_or xs i 0 < 256) → from_be_bytes w8 xs < 2 ^ 8
bound_1 xs each = omega (arith, each 0)

pub bound_2 : (xs : List ℕ) → ((i : ℕ) → get_or xs i 0 < 256) → from_be_bytes w16 xs < 2 ^ 16
bound_2 xs each = omega (arith, each 0, each 1)

pub bound_4 : (xs : List ℕ) → ((i : ℕ) → get_or xs i 0 < 256) → from_be_bytes w32 xs < 2 ^ 32
bound_4 xs each = omega (arith, each 0, each 1, each 2, each 3)

pub bound_8 : (xs : List ℕ) → ((i : ℕ) → get_or xs i 0 < 256) → from_be_bytes w64 xs < 2 ^ 64
bound_8 xs each = omega (arith, each 0, each 1, each 2, each 3, each 4, each 5, each 6, each 7)

pub one_byte : (bs : List ℕ) (n : ℕ) → length bs ≡ 1 → ((i : ℕ) → get_or bs i 0 < 256) → n ≡ from_be_bytes w8 bs → to_be_bytes w8 n ≡ bs
one_byte [] n l each e = absurd (cc)
one_byte (b ∷ []) n l each e = let small : b < 256 = each 0 in let m : n % 256 ≡ b = omega arith in rw m refl
one_byte (b ∷ (d ∷ bs)) n l each e = absurd (grind arith)

pub number-sound_1 : (bytes rest : List ℕ) (n : ℕ) → AreBytes bytes → number_at w8 bytes ≡ Ok (n, rest) → (n < 2 ^ 8) × (bytes ≡ to_be_bytes w8 n ++ rest)
number-sound_1 bytes rest n are = elim (nat_lt (length bytes) 1) as (λ t. nat_lt (length bytes) 1 ≡ t → number_if t w8 bytes ≡ read n rest → (n < 2 ^ 8) × (bytes ≡ to_be_bytes w8 n ++ rest)) [
  | true ↦ λ t e. absurd (cc)
  | false ↦ λ t e.
      let unfinished : take 1 bytes ++ drop 1 bytes ≡ bytes = take-append-drop 1 bytes in
      let each : (i : ℕ) → get_or (take 1 bytes) i 0 < 256 = front-each (take 1 bytes) (drop 1 bytes) (subst AreBytes (sym unfinished) are) in
      let enough : 1 ≤ length bytes = ltb-false (length bytes) 1 t in
      let n-is : n ≡ from_be_bytes w8 (take 1 bytes) = sym (first-same (from_be_bytes w8 (take 1 bytes), drop 1 bytes) (n, rest) e) in
      let rest-is : rest ≡ drop 1 bytes = sym (second-same (from_be_bytes w8 (take 1 bytes), drop 1 bytes) (n, rest) e) in
      let number : to_be_bytes w8 n ≡ take 1 bytes = one_byte (take 1 bytes) n (length-take-le 1 bytes enough) each n-is in
      (subst (λ m. m < 2 ^ 8) (sym n-is) (bound_1 (take 1 bytes) each), sym unfinished ∙ cc)
] refl

number-sound_2 : (bytes rest : List ℕ) (n : ℕ) → AreBytes bytes → number_at w16 bytes ≡ Ok (n, rest) → (n < 2 ^ 16) × (bytes ≡ to_be_bytes w16 n ++ rest)
number-sound_2 bytes rest n are = elim (nat_lt (length bytes) 2) as (λ t. nat_lt (length bytes) 2 ≡ t → number_if t w16 bytes ≡ read n rest → (n < 2 ^ 16) × (bytes ≡ to_be_bytes w16 n ++ rest)) [
  | true ↦ λ t e. absurd (cc)
  | false ↦ λ t e.
      let unfinished : take 2 bytes ++ drop 2 bytes ≡ bytes = take-append-drop 2 bytes in
      let each : (i : ℕ) → get_or (take 2 bytes) i 0 < 256 = front-each (take 2 bytes) (drop 2 bytes) (subst AreBytes (sym unfinished) are) in
      let enough : 2 ≤ length bytes = ltb-false (length bytes) 2 t in
      let n-is : n ≡ from_be_bytes w16 (take 2 bytes) = sym (first-same (from_be_bytes w16 (take 2 bytes), drop 2 bytes) (n, rest) e) in
      let rest-is : rest ≡ drop 2 bytes = sym (second-same (from_be_bytes w16 (take 2 bytes), drop 2 bytes) (n, rest) e) in
      let number : to_be_bytes w16 n ≡ take 2 bytes = be_bytes_2 (take 2 bytes) n (length-take-le 2 bytes enough) each n-is in
      (subst (λ m. m < 2 ^ 16) (sym n-is) (bound_2 (take 2 bytes) each), sym unfinished ∙ cc)
] refl

number-sound_4 : (bytes rest : List ℕ) (n : ℕ) → AreBytes bytes → number_at w32 bytes ≡ Ok (n, rest) → (n < 2 ^ 32) × (bytes ≡ to_be_bytes w32 n ++ rest)
number-sound_4 bytes rest n are = elim (nat_lt (length bytes) 4) as (λ t. nat_lt (length bytes) 4 ≡ t → number_if t w32 bytes ≡ read n rest → (n < 2 ^ 32) × (bytes ≡ to_be_bytes w32 n ++ rest)) [
  | true ↦ λ t e. absurd (cc)
  | false ↦ λ t e.
      let unfinished : take 4 bytes ++ drop 4 bytes ≡ bytes = take-append-drop 4 bytes in
      let each : (i : ℕ) → get_or (take 4 bytes) i 0 < 256 = front-each (take 4 bytes) (drop 4 bytes) (subst AreBytes (sym unfinished) are) in
      let enough : 4 ≤ length bytes = ltb-false (length bytes) 4 t in
      let n-is : n ≡ from_be_bytes w32 (take 4 bytes) = sym (first-same (from_be_bytes w32 (take 4 bytes), drop 4 bytes) (n, rest) e) in
      let rest-is : rest ≡ drop 4 bytes = sym (second-same (from_be_bytes w32 (take 4 bytes), drop 4 bytes) (n, rest) e) in
      let number : to_be_bytes w32 n ≡ take 4 bytes = be_bytes_4 (take 4 bytes) n (length-take-le 4 bytes enough) each n-is in
      (subst (λ m. m < 2 ^ 32) (sym n-is) (bound_4 (take 4 bytes) each), sym unfinished ∙ cc)
] refl

number-sound_8 : (bytes rest : List ℕ) (n : ℕ) → AreBytes bytes → number_at w64 bytes ≡ Ok (n, rest) → (n < 2 ^ 64) × (bytes ≡ to_be_bytes w64 n ++ rest)
number-sound_8 bytes rest n are = elim (nat_lt (length bytes) 8) as (λ t. nat_lt (length bytes) 8 ≡ t → number_if t w64 bytes ≡ read n rest → (n < 2 ^ 64) × (bytes ≡ to_be_bytes w64 n ++ rest)) [
  | true ↦ λ t e. absurd (cc)
  | false ↦ λ t e.
      let unfinished : take 8 bytes ++ drop 8 bytes ≡ bytes = take-append-drop 8 bytes in
      let each : (i : ℕ) → get_or (take 8 bytes) i 0 < 256 = front-each (take 8 bytes) (drop 8 bytes) (subst AreBytes (sym unfinished) are) in
      let enough : 8 ≤ length bytes = ltb-false (length bytes) 8 t in
      let n-is : n ≡ from_be_bytes w64 (take 8 bytes) = sym (first-same (from_be_bytes w64 (take 8 bytes), drop 8 bytes) (n, rest) e) in
      let rest-is : rest ≡ drop 8 bytes = sym (second-same (from_be_bytes w64 (take 8 bytes), drop 8 bytes) (n, rest) e) in
      let number : to_be_bytes w64 n ≡ take 8 bytes = be_bytes_8 (take 8 bytes) n (length-take-le 8 bytes enough) each n-is in
      (subst (λ m. m < 2 ^ 64) (sym n-is) (bound_8 (take 8 bytes) each), sym unfinished ∙ cc)
] refl

-- ---- the steps of a reading

-- the branch that was taken
pub if-cases : {A : Type 0} (b : Bool) (x y r : A) → (if b then x else y) ≡ r → ((b ≡ true) × (x ≡ r)) ⊎ ((b ≡ false) × (y ≡ r))
if-cases true x y r e = inl (refl, e)
if-cases false x y r e = inr (refl, e)

-- what came before a step that was taken
pub record Before {A B E : Type 0} (r : Result A E) (f : A → Result B E) (y : B) : Type 0 where
  pub value : A
  pub before : r ≡ Ok value
  pub after : f value ≡ Ok y

pub bind-ok : {A B E : Type 0} (r : Result A E) (f : A → Result B E) (y : B) → (r >>= f) ≡ Ok y → Before r f y
bind-ok (Ok x) f y e = record { value = x; before = refl; after = e }
bind-ok (Err d) f y e = absurd (cc)

-- ---- the argument

record Argument (info : ℕ) (bytes rest : List ℕ) (n : ℕ) : Type 0 where
  form : Form
  holds : n < limit form
  told : information form n ≡ info
  whole : bytes ≡ argument form n ++ rest

abbrev pub from_27 : ℕ → List ℕ → Result (ℕ × List ℕ) CborKind
from_27 info rest = if info == 27 then number_at w64 rest else Err Reserved

abbrev pub from_26 : ℕ → List ℕ → Result (ℕ × List ℕ) CborKind
from_26 info rest = if info == 26 then number_at w32 rest else from_27 info rest

abbrev pub from_25 : ℕ → List ℕ → Result (ℕ × List ℕ) CborKind
from_25 info rest = if info == 25 then number_at w16 rest else from_26 info rest

abbrev pub from_24 : ℕ → List ℕ → Result (ℕ × List ℕ) CborKind
from_24 info rest = if info == 24 then number_at w8 rest else from_25 info rest

sound_27 : (info : ℕ) (bytes rest : List ℕ) (n : ℕ) → AreBytes bytes → from_27 info bytes ≡ read n rest → Argument info bytes rest n
sound_27 info bytes rest n are e = elim (if-cases (info == 27) (number_at w64 bytes) (Err Reserved) (read n rest) e) [
  | inl h ↦ let s = number-sound_8 bytes rest n are h.1 in record { form = Eight; holds = s.0; told = sym (eqb-true info 27 h.0); whole = s.1 }
  | inr h ↦ absurd (cc)
]

sound_26 : (info : ℕ) (bytes rest : List ℕ) (n : ℕ) → AreBytes bytes → from_26 info bytes ≡ read n rest → Argument info bytes rest n
sound_26 info bytes rest n are e = elim (if-cases (info == 26) (number_at w32 bytes) (from_27 info bytes) (read n rest) e) [
  | inl h ↦ let s = number-sound_4 bytes rest n are h.1 in record { form = Four; holds = s.0; told = sym (eqb-true info 26 h.0); whole = s.1 }
  | inr h ↦ sound_27 info bytes rest n are h.1
]

sound_25 : (info : ℕ) (bytes rest : List ℕ) (n : ℕ) → AreBytes bytes → from_25 info bytes ≡ read n rest → Argument info bytes rest n
sound_25 info bytes rest n are e = elim (if-cases (info == 25) (number_at w16 bytes) (from_26 info bytes) (read n rest) e) [
  | inl h ↦ let s = number-sound_2 bytes rest n are h.1 in record { form = Two; holds = s.0; told = sym (eqb-true info 25 h.0); whole = s.1 }
  | inr h ↦ sound_26 info bytes rest n are h.1
]

sound_24 : (info : ℕ) (bytes rest : List ℕ) (n : ℕ) → AreBytes bytes → from_24 info bytes ≡ read n rest → Argument info bytes rest n
sound_24 info bytes rest n are e = elim (if-cases (info == 24) (number_at w8 bytes) (from_25 info bytes) (read n rest) e) [
  | inl h ↦ let s = number-sound_1 bytes rest n are h.1 in record { form = One; holds = s.0; told = sym (eqb-true info 24 h.0); whole = s.1 }
  | inr h ↦ sound_25 info bytes rest n are h.1
]

argument-sound : (info : ℕ) (bytes rest : List ℕ) (n : ℕ) → AreBytes bytes → argument_at info bytes ≡ read n rest → Argument info bytes rest n
argument-sound info bytes rest n are e = elim (if-cases (nat_lt info 24) (read info bytes) (from_24 info bytes) (read n rest) e) [
  | inl h ↦
      let same : info ≡ n = first-same (info, bytes) (n, rest) h.1 in
      let rests : bytes ≡ rest = second-same (info, bytes) (n, rest) h.1 in
      let lt : info < 24 = ltb-true info 24 h.0 in
      record { form = Within; holds = subst (λ m. m < 24) same lt; told = sym same; whole = rests }
  | inr h ↦ sound_24 info bytes rest n are h.1
]

-- ---- the kind

within_seven : (n : ℕ) (h : Head) → n < 24 → simple_or_float n n ≡ Ok h → HeadOf h (head Within 7 n)
within_seven n h lt e =
    let t : nat_lt n 24 ≡ true = grind (arith, nat_tests) in
    let q : h ≡ heads.Simple n = cc in
    subst (λ k. HeadOf k (head Within 7 n)) (sym q) (inl (lt, refl))

one_seven : (n : ℕ) (h : Head) → n < 2 ^ 8 → (if nat_lt n 32 then Err Reserved else Ok (heads.Simple n)) ≡ Ok h → HeadOf h (head One 7 n)
one_seven n h lt e = elim (if-cases (nat_lt n 32) (Err Reserved) (Ok (heads.Simple n)) (Ok h) e) [
  | inl d ↦ absurd (cc)
  | inr d ↦ let q : h ≡ heads.Simple n = cc in subst (λ k. HeadOf k (head One 7 n)) (sym q) (inr (ltb-false n 32 d.0, lt, refl))
]

kind-sound : (major : ℕ) (form : Form) (n : ℕ) (h : Head) → major < 8 → n < limit form → kind_of major (information form n) n ≡ Ok h → HeadOf h (head form major n)
kind-sound zero form n h lt holds e = let q : h ≡ heads.Unsigned n = cc in subst (λ k. HeadOf k (head form 0 n)) (sym q) (record { form = form; holds = holds; spelled = refl })
kind-sound (suc zero) form n h lt holds e = let q : h ≡ heads.Negative n = cc in subst (λ k. HeadOf k (head form 1 n)) (sym q) (record { form = form; holds = holds; spelled = refl })
kind-sound (suc (suc zero)) form n h lt holds e = let q : h ≡ heads.Bytes n = cc in subst (λ k. HeadOf k (head form 2 n)) (sym q) (record { form = form; holds = holds; spelled = refl })
kind-sound (suc (suc (suc zero))) form n h lt holds e = let q : h ≡ heads.Text n = cc in subst (λ k. HeadOf k (head form 3 n)) (sym q) (record { form = form; holds = holds; spelled = refl })
kind-sound (suc (suc (suc (suc zero)))) form n h lt holds e = let q : h ≡ heads.Array n = cc in subst (λ k. HeadOf k (head form 4 n)) (sym q) (record { form = form; holds = holds; spelled = refl })
kind-sound (suc (suc (suc (suc (suc zero))))) form n h lt holds e = let q : h ≡ heads.Map n = cc in subst (λ k. HeadOf k (head form 5 n)) (sym q) (record { form = form; holds = holds; spelled = refl })
kind-sound (suc (suc (suc (suc (suc (suc zero)))))) form n h lt holds e = let q : h ≡ heads.Tag n = cc in subst (λ k. HeadOf k (head form 6 n)) (sym q) (record { form = form; holds = holds; spelled = refl })
kind-sound (suc (suc (suc (suc (suc (suc (suc zero))))))) Within n h lt holds e = within_seven n h holds e
kind-sound (suc (suc (suc (suc (suc (suc (suc zero))))))) One n h lt holds e = one_seven n h holds e
kind-sound (suc (suc (suc (suc (suc (suc (suc zero))))))) Two n h lt holds e = let q : h ≡ heads.Float 2 n = cc in subst (λ k. HeadOf k (head Two 7 n)) (sym q) (inl (refl, holds, refl))
kind-sound (suc (suc (suc (suc (suc (suc (suc zero))))))) Four n h lt holds e = let q : h ≡ heads.Float 4 n = cc in subst (λ k. HeadOf k (head Four 7 n)) (sym q) (inr (inl (refl, holds, refl)))
kind-sound (suc (suc (suc (suc (suc (suc (suc zero))))))) Eight n h lt holds e = let q : h ≡ heads.Float 8 n = cc in subst (λ k. HeadOf k (head Eight 7 n)) (sym q) (inr (inr (refl, holds, refl)))
kind-sound (suc (suc (suc (suc (suc (suc (suc (suc m)))))))) form n h lt holds e = absurd (omega arith)

-- ---- the whole head

pub record Headed (bytes : List ℕ) (h : Head) (rest : List ℕ) : Type 0 where
  pub front : List ℕ
  pub head_of : HeadOf h front
  pub whole : bytes ≡ front ++ rest

abbrev headed : Head → List ℕ → Result (Head × List ℕ) CborKind
headed h rest = Ok (h, rest)

abbrev step : ℕ → ℕ → ℕ × List ℕ → Result (Head × List ℕ) CborKind
step major info x = kind_of major info x.0 >>= λ h. headed h x.1

pub head-sound : (bytes rest : List ℕ) (h : Head) → AreBytes bytes → head_at bytes ≡ headed h rest → Headed bytes h rest
unfolding head_at
head-sound [] rest h are e = absurd (cc)
head-sound (first ∷ bytes) rest h are e = elim (if-cases (first % 32 == 31) (Err (endless (first / 32))) (argument_at (first % 32) bytes >>= step (first / 32) (first % 32)) (headed h rest) e) [
  | inl d ↦ absurd (cc)
  | inr d ↦
      let b = bind-ok (argument_at (first % 32) bytes) (step (first / 32) (first % 32)) (h, rest) d.1 in
      let k = bind-ok (kind_of (first / 32) (first % 32) b.value.0) (λ g. headed g b.value.1) (h, rest) b.after in
      let same : k.value ≡ h = first-same (k.value, b.value.1) (h, rest) k.after in
      let rests : b.value.1 ≡ rest = second-same (k.value, b.value.1) (h, rest) k.after in
      let low : first < 256 = are.each 0 in
      let a = argument-sound (first % 32) bytes b.value.1 b.value.0 (AreBytes-after (first ∷ []) bytes are) b.before in
      let kind : kind_of (first / 32) (information a.form b.value.0) b.value.0 ≡ Ok h = subst (λ i. kind_of (first / 32) i b.value.0 ≡ Ok h) (sym a.told) (k.before ∙ ap (λ g. Ok g) same) in
      let first-is : first ≡ 32 * (first / 32) + information a.form b.value.0 = rw a.told (omega arith) in
      record {
        front = head a.form (first / 32) b.value.0;
        head_of = kind-sound (first / 32) a.form b.value.0 h (omega arith) a.holds kind;
        whole = ap (λ x. x ∷ bytes) first-is ∙ ap (λ r. (32 * (first / 32) + information a.form b.value.0) ∷ r) (a.whole ∙ ap (λ r. argument a.form b.value.0 ++ r) rests);
      }
]
