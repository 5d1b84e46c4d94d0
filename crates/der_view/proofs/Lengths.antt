-- What `length_at` reads is the shortest form of a length, and it reads each such form.
use Rattle.std.proofs.Common.{◌≡◌, ◌⊎◌, ℕ, zero, suc, ◌+◌, ◌*◌, ◌/◌, ◌%◌, ◌<◌, ◌≤◌, ◌^◌, ◌==◌, ◌||◌, if◌then◌else◌, List, [], ◌∷◌, ◌++◌, length, get_or, Bool, true, false, nat_lt, Result, Ok, Err, refl, sym, ap, ◌∙◌, subst, arith, inl, inr}
use Rattle.std.proofs.lemmas.Bool.{ltb-true, ltb-false, eqb-true, eqb-false}
use Rattle.std.proofs.lemmas.Bool.Decides.{nat_tests}
use Rattle.der_view.specs.declared.der_kind.DerKind.{DerKind}
use Rattle.der_view.specs.declared.der_kind.DerKind.TheVariants.{Short, HighTag, Length, Trailing}
use Rattle.der_view.specs.Element.{length_bytes}
use Rattle.der_view.specs.Fault.{IsSome}
use Rattle.der_view.specs.Reading.{one_at, two_at, three_at, four_at, digits_at, is_padded, is_refused, long_at, length_at}

-- each number of the list is a byte
pub record AreBytes (bytes : List ℕ) : Type 0 where
  pub each : (i : ℕ) → get_or bytes i 0 < 256

pub bytes-behind : (front rest : List ℕ) → AreBytes (front ++ rest) → AreBytes rest
bytes-behind [] rest h = h
bytes-behind (x ∷ xs) rest h = bytes-behind xs rest (record { each = λ i. h.each (suc i) })

front-each : (front rest : List ℕ) → AreBytes (front ++ rest) → (i : ℕ) → get_or front i 0 < 256
front-each [] rest h i = omega arith
front-each (x ∷ xs) rest h zero = h.each 0
front-each (x ∷ xs) rest h (suc i) = front-each xs rest (record { each = λ k. h.each (suc k) }) i

pub bytes-before : (front rest : List ℕ) → AreBytes (front ++ rest) → AreBytes front
bytes-before front rest h = record { each = front-each front rest h }

-- the branch that was taken
pub if-cases : {A : Type 0} (b : Bool) (x y r : A) → (if b then x else y) ≡ r → ((b ≡ true) × (x ≡ r)) ⊎ ((b ≡ false) × (y ≡ r))
if-cases true x y r e = inl (refl, e)
if-cases false x y r e = inr (refl, e)

-- what an `Ok` holds
abbrev pub read : ℕ → List ℕ → Result (ℕ × List ℕ) DerKind
read n rest = Ok (n, rest)

pub same-number : (n m : ℕ) (xs ys : List ℕ) → read n xs ≡ read m ys → n ≡ m
same-number n m xs ys e = let q : (n, xs) ≡ (m, ys) = cc in let f : ℕ × List ℕ → ℕ = λ p. p.0 in ap f q

pub same-rest : (n m : ℕ) (xs ys : List ℕ) → read n xs ≡ read m ys → xs ≡ ys
same-rest n m xs ys e = let q : (n, xs) ≡ (m, ys) = cc in let f : ℕ × List ℕ → List ℕ = λ p. p.1 in ap f q

-- ---- the bytes of a length by its digits

spelled_0 : (a : ℕ) → a < 0x80 → length_bytes a ≡ a ∷ []
spelled_0 a h = let t : nat_lt a 0x80 ≡ true = grind (arith, nat_tests) in rw t refl

spelled_1 : (a : ℕ) → 0x80 ≤ a → a < 256 → length_bytes a ≡ 0x81 ∷ a ∷ []
spelled_1 a l h =
    let t : nat_lt a 0x80 ≡ false = grind (arith, nat_tests) in
    let u : nat_lt a (2 ^ 8) ≡ true = grind (arith, nat_tests) in
    rw (t, u) refl

spelled_2 : (a b : ℕ) → 1 ≤ a → a < 256 → b < 256 → length_bytes (a * 2 ^ 8 + b) ≡ 0x82 ∷ a ∷ b ∷ []
spelled_2 a b l h k =
    let n = a * 2 ^ 8 + b in
    let t : nat_lt n 0x80 ≡ false = grind (arith, nat_tests) in
    let u : nat_lt n (2 ^ 8) ≡ false = grind (arith, nat_tests) in
    let v : nat_lt n (2 ^ 16) ≡ true = grind (arith, nat_tests) in
    let p : n / 2 ^ 8 ≡ a = omega arith in
    let q : n % 2 ^ 8 ≡ b = omega arith in
    rw (t, u, v) (rw (p, q) refl)

spelled_3 : (a b c : ℕ) → 1 ≤ a → a < 256 → b < 256 → c < 256 → length_bytes ((a * 2 ^ 8 + b) * 2 ^ 8 + c) ≡ 0x83 ∷ a ∷ b ∷ c ∷ []
spelled_3 a b c l h k m =
    let n = (a * 2 ^ 8 + b) * 2 ^ 8 + c in
    let t : nat_lt n 0x80 ≡ false = grind (arith, nat_tests) in
    let u : nat_lt n (2 ^ 8) ≡ false = grind (arith, nat_tests) in
    let v : nat_lt n (2 ^ 16) ≡ false = grind (arith, nat_tests) in
    let w : nat_lt n (2 ^ 24) ≡ true = grind (arith, nat_tests) in
    let p : n / 2 ^ 16 ≡ a = omega arith in
    let q : n / 2 ^ 8 % 2 ^ 8 ≡ b = omega arith in
    let r : n % 2 ^ 8 ≡ c = omega arith in
    rw (t, u, v, w) (rw (p, q, r) refl)

spelled_4 : (a b c d : ℕ) → 1 ≤ a → a < 256 → b < 256 → c < 256 → d < 256 → length_bytes (((a * 2 ^ 8 + b) * 2 ^ 8 + c) * 2 ^ 8 + d) ≡ 0x84 ∷ a ∷ b ∷ c ∷ d ∷ []
spelled_4 a b c d l h k m o =
    let n = ((a * 2 ^ 8 + b) * 2 ^ 8 + c) * 2 ^ 8 + d in
    let t : nat_lt n 0x80 ≡ false = grind (arith, nat_tests) in
    let u : nat_lt n (2 ^ 8) ≡ false = grind (arith, nat_tests) in
    let v : nat_lt n (2 ^ 16) ≡ false = grind (arith, nat_tests) in
    let w : nat_lt n (2 ^ 24) ≡ false = grind (arith, nat_tests) in
    let p : n / 2 ^ 24 ≡ a = omega arith in
    let q : n / 2 ^ 16 % 2 ^ 8 ≡ b = omega arith in
    let r : n / 2 ^ 8 % 2 ^ 8 ≡ c = omega arith in
    let s : n % 2 ^ 8 ≡ d = omega arith in
    rw (t, u, v, w) (rw (p, q, r, s) refl)

-- ---- each form is read

abbrev bytes_4 : ℕ → List ℕ
bytes_4 n = 0x84 ∷ (n / 2 ^ 24) ∷ (n / 2 ^ 16 % 2 ^ 8) ∷ (n / 2 ^ 8 % 2 ^ 8) ∷ (n % 2 ^ 8) ∷ []

abbrev bytes_3 : ℕ → List ℕ
bytes_3 n = 0x83 ∷ (n / 2 ^ 16) ∷ (n / 2 ^ 8 % 2 ^ 8) ∷ (n % 2 ^ 8) ∷ []

abbrev bytes_2 : ℕ → List ℕ
bytes_2 n = 0x82 ∷ (n / 2 ^ 8) ∷ (n % 2 ^ 8) ∷ []

again_0 : (n : ℕ) (rest : List ℕ) → n < 0x80 → length_at (n ∷ rest) ≡ read n rest
again_0 n rest h = let t : nat_lt n 0x80 ≡ true = grind (arith, nat_tests) in rw t refl

again_1 : (n : ℕ) (rest : List ℕ) → 0x80 ≤ n → length_at (0x81 ∷ n ∷ rest) ≡ read n rest
again_1 n rest l =
    let t : (n == 0) ≡ false = grind (arith, nat_tests) in
    let u : nat_lt n 0x80 ≡ false = grind (arith, nat_tests) in
    rw (t, u) refl

again_2 : (n : ℕ) (rest : List ℕ) → 2 ^ 8 ≤ n → length_at (bytes_2 n ++ rest) ≡ read n rest
again_2 n rest l =
    let t : (n / 2 ^ 8 == 0) ≡ false = grind (arith, nat_tests) in
    let q : (n / 2 ^ 8) * 2 ^ 8 + n % 2 ^ 8 ≡ n = omega arith in
    rw t (ap (λ m. read m rest) q)

again_3 : (n : ℕ) (rest : List ℕ) → 2 ^ 16 ≤ n → length_at (bytes_3 n ++ rest) ≡ read n rest
again_3 n rest l =
    let t : (n / 2 ^ 16 == 0) ≡ false = grind (arith, nat_tests) in
    let q : ((n / 2 ^ 16) * 2 ^ 8 + n / 2 ^ 8 % 2 ^ 8) * 2 ^ 8 + n % 2 ^ 8 ≡ n = omega arith in
    rw t (ap (λ m. read m rest) q)

again_4 : (n : ℕ) (rest : List ℕ) → 2 ^ 24 ≤ n → length_at (bytes_4 n ++ rest) ≡ read n rest
again_4 n rest l =
    let t : (n / 2 ^ 24 == 0) ≡ false = grind (arith, nat_tests) in
    let q : (((n / 2 ^ 24) * 2 ^ 8 + n / 2 ^ 16 % 2 ^ 8) * 2 ^ 8 + n / 2 ^ 8 % 2 ^ 8) * 2 ^ 8 + n % 2 ^ 8 ≡ n = omega arith in
    rw t (ap (λ m. read m rest) q)

-- the bytes of a length, by the test that was passed
abbrev from_3 : Bool → ℕ → List ℕ
from_3 b n = if b then bytes_3 n else bytes_4 n

abbrev from_2 : Bool → ℕ → List ℕ
from_2 b n = if b then bytes_2 n else from_3 (nat_lt n (2 ^ 24)) n

abbrev from_1 : Bool → ℕ → List ℕ
from_1 b n = if b then 0x81 ∷ n ∷ [] else from_2 (nat_lt n (2 ^ 16)) n

abbrev from_0 : Bool → ℕ → List ℕ
from_0 b n = if b then n ∷ [] else from_1 (nat_lt n (2 ^ 8)) n

pub length-again : (n : ℕ) (rest : List ℕ) → length_at (length_bytes n ++ rest) ≡ read n rest
length-again n rest = elim (nat_lt n 0x80) as (λ b. nat_lt n 0x80 ≡ b → length_at (from_0 b n ++ rest) ≡ read n rest) [
  | true ↦ λ t. again_0 n rest (ltb-true n 0x80 t)
  | false ↦ λ t. elim (nat_lt n (2 ^ 8)) as (λ b. nat_lt n (2 ^ 8) ≡ b → length_at (from_1 b n ++ rest) ≡ read n rest) [
    | true ↦ λ u. again_1 n rest (ltb-false n 0x80 t)
    | false ↦ λ u. elim (nat_lt n (2 ^ 16)) as (λ b. nat_lt n (2 ^ 16) ≡ b → length_at (from_2 b n ++ rest) ≡ read n rest) [
      | true ↦ λ v. again_2 n rest (ltb-false n (2 ^ 8) u)
      | false ↦ λ v. elim (nat_lt n (2 ^ 24)) as (λ b. nat_lt n (2 ^ 24) ≡ b → length_at (from_3 b n ++ rest) ≡ read n rest) [
        | true ↦ λ w. again_3 n rest (ltb-false n (2 ^ 16) v)
        | false ↦ λ w. again_4 n rest (ltb-false n (2 ^ 24) w)
      ] refl
    ] refl
  ] refl
] refl

-- ---- what was read is such a form

pub record LengthIs (bytes : List ℕ) (n : ℕ) (rest : List ℕ) : Type 0 where
  pub small : n < 2 ^ 32
  pub whole : bytes ≡ length_bytes n ++ rest

positive : (a : ℕ) → ((a == 0) || false) ≡ false → 1 ≤ a
positive a p = grind (arith, nat_tests)

abbrev long : ℕ → Bool
long a = (a == 0) || nat_lt a 0x80

not-long : (a : ℕ) → long a ≡ false → 0x80 ≤ a
not-long a p = grind (arith, nat_tests)

told : (first m n : ℕ) (digits tail rest : List ℕ) → m < 2 ^ 32 → length_bytes m ≡ first ∷ digits → read m tail ≡ read n rest → LengthIs (first ∷ (digits ++ tail)) n rest
told first m n digits tail rest h s e =
    let same = same-number m n tail rest e in
    let rests = same-rest m n tail rest e in
    record { small = subst (λ k. k < 2 ^ 32) same h; whole = sym (ap (λ x. x ++ tail) s) ∙ ap (λ k. length_bytes k ++ tail) same ∙ ap (λ x. length_bytes n ++ x) rests }

sound_1 : (bytes rest : List ℕ) (n : ℕ) → AreBytes bytes → is_padded 0x81 bytes ≡ false → one_at bytes ≡ read n rest → LengthIs (0x81 ∷ bytes) n rest
sound_1 [] rest n are p e = absurd (cc)
sound_1 (a ∷ tail) rest n are p e = let low : a < 256 = are.each 0 in told 0x81 a n (a ∷ []) tail rest (omega arith) (spelled_1 a (not-long a p) low) e

sound_2 : (bytes rest : List ℕ) (n : ℕ) → AreBytes bytes → is_padded 0x82 bytes ≡ false → two_at bytes ≡ read n rest → LengthIs (0x82 ∷ bytes) n rest
sound_2 [] rest n are p e = absurd (cc)
sound_2 (a ∷ []) rest n are p e = absurd (cc)
sound_2 (a ∷ (b ∷ tail)) rest n are p e =
    let low : a < 256 = are.each 0 in
    let low_b : b < 256 = are.each 1 in
    told 0x82 (a * 2 ^ 8 + b) n (a ∷ b ∷ []) tail rest (omega arith) (spelled_2 a b (positive a p) low low_b) e

sound_3 : (bytes rest : List ℕ) (n : ℕ) → AreBytes bytes → is_padded 0x83 bytes ≡ false → three_at bytes ≡ read n rest → LengthIs (0x83 ∷ bytes) n rest
sound_3 [] rest n are p e = absurd (cc)
sound_3 (a ∷ []) rest n are p e = absurd (cc)
sound_3 (a ∷ (b ∷ [])) rest n are p e = absurd (cc)
sound_3 (a ∷ (b ∷ (c ∷ tail))) rest n are p e =
    let low : a < 256 = are.each 0 in
    let low_b : b < 256 = are.each 1 in
    let low_c : c < 256 = are.each 2 in
    told 0x83 ((a * 2 ^ 8 + b) * 2 ^ 8 + c) n (a ∷ b ∷ c ∷ []) tail rest (omega arith) (spelled_3 a b c (positive a p) low low_b low_c) e

sound_4 : (bytes rest : List ℕ) (n : ℕ) → AreBytes bytes → is_padded 0x84 bytes ≡ false → four_at bytes ≡ read n rest → LengthIs (0x84 ∷ bytes) n rest
sound_4 [] rest n are p e = absurd (cc)
sound_4 (a ∷ []) rest n are p e = absurd (cc)
sound_4 (a ∷ (b ∷ [])) rest n are p e = absurd (cc)
sound_4 (a ∷ (b ∷ (c ∷ []))) rest n are p e = absurd (cc)
sound_4 (a ∷ (b ∷ (c ∷ (d ∷ tail)))) rest n are p e =
    let low : a < 256 = are.each 0 in
    let low_b : b < 256 = are.each 1 in
    let low_c : c < 256 = are.each 2 in
    let low_d : d < 256 = are.each 3 in
    told 0x84 (((a * 2 ^ 8 + b) * 2 ^ 8 + c) * 2 ^ 8 + d) n (a ∷ b ∷ c ∷ d ∷ []) tail rest (omega arith) (spelled_4 a b c d (positive a p) low low_b low_c low_d) e

-- the first byte of a long form that is not refused
record IsForm (first : ℕ) (bytes : List ℕ) : Type 0 where
  above : first ≡ 0x80 → ⊥
  most : first ≤ 0x84
  padded : is_padded first bytes ≡ false

neither : (a b : Bool) → (a || b) ≡ false → (a ≡ false) × (b ≡ false)
neither true b e = absurd (cc)
neither false b e = (refl, e)

is-form : (first : ℕ) (bytes : List ℕ) → is_refused first bytes ≡ false → IsForm first bytes
is-form first bytes e =
    let a = neither (first == 0x80) (nat_lt 0x84 first || is_padded first bytes) e in
    let b = neither (nat_lt 0x84 first) (is_padded first bytes) a.1 in
    record { above = eqb-false first 0x80 a.0; most = ltb-false 0x84 first b.0; padded = b.1 }

abbrev Forms : ℕ → Type 0
Forms first = (first ≡ 0x81) ⊎ ((first ≡ 0x82) ⊎ ((first ≡ 0x83) ⊎ (first ≡ 0x84)))

forms : (first : ℕ) (bytes : List ℕ) → 0x80 ≤ first → IsForm first bytes → Forms first
forms first bytes l f = elim (first == 0x81) as (λ b. (first == 0x81) ≡ b → Forms first) [
  | true ↦ λ t. inl (eqb-true first 0x81 t)
  | false ↦ λ t. elim (first == 0x82) as (λ b. (first == 0x82) ≡ b → Forms first) [
    | true ↦ λ u. inr (inl (eqb-true first 0x82 u))
    | false ↦ λ u. elim (first == 0x83) as (λ b. (first == 0x83) ≡ b → Forms first) [
      | true ↦ λ v. inr (inr (inl (eqb-true first 0x83 v)))
      | false ↦ λ v.
          let a = f.above in
          let b = eqb-false first 0x81 t in
          let c = eqb-false first 0x82 u in
          let d = eqb-false first 0x83 v in
          let m = f.most in
          inr (inr (inr (omega arith)))
    ] refl
  ] refl
] refl

-- A claim on the long form holds where it holds at each of the four.
by-form : (P : ℕ → Type 0) (first : ℕ) → Forms first → P 0x81 → P 0x82 → P 0x83 → P 0x84 → P first
by-form P first (inl e) p q r s = subst P (sym e) p
by-form P first (inr (inl e)) p q r s = subst P (sym e) q
by-form P first (inr (inr (inl e))) p q r s = subst P (sym e) r
by-form P first (inr (inr (inr e))) p q r s = subst P (sym e) s

long-sound : (first : ℕ) (bytes rest : List ℕ) (n : ℕ) → AreBytes bytes → 0x80 ≤ first → long_at first bytes ≡ read n rest → LengthIs (first ∷ bytes) n rest
long-sound first bytes rest n are l e = elim (if-cases (is_refused first bytes) (Err Length) (digits_at first bytes) (read n rest) e) [
  | inl h ↦ absurd (cc)
  | inr h ↦
      let f = is-form first bytes h.0 in
      let P : ℕ → Type 0 = λ k. is_padded k bytes ≡ false → digits_at k bytes ≡ read n rest → LengthIs (k ∷ bytes) n rest in
      by-form P first (forms first bytes l f) (sound_1 bytes rest n are) (sound_2 bytes rest n are) (sound_3 bytes rest n are) (sound_4 bytes rest n are) f.padded h.1
]

pub length-sound : (bytes rest : List ℕ) (n : ℕ) → AreBytes bytes → length_at bytes ≡ read n rest → LengthIs bytes n rest
length-sound [] rest n are e = absurd (cc)
length-sound (first ∷ bytes) rest n are e = elim (if-cases (nat_lt first 0x80) (read first bytes) (long_at first bytes) (read n rest) e) [
  | inl h ↦
      let small = ltb-true first 0x80 h.0 in
      let same = same-number first n bytes rest h.1 in
      let rests = same-rest first n bytes rest h.1 in
      record { small = omega (arith, small, same); whole = ap (λ x. x ++ bytes) (sym (spelled_0 first small)) ∙ ap (λ k. length_bytes k ++ bytes) same ∙ ap (λ x. length_bytes n ++ x) rests }
  | inr h ↦ long-sound first bytes rest n (bytes-behind (first ∷ []) bytes are) (ltb-false first 0x80 h.0) h.1
]

-- ---- a length that is refused, and one that is short

-- the digits are short, or are read
one-fault : (bytes : List ℕ) (kind : DerKind) → one_at bytes ≡ Err kind → kind ≡ Short
one-fault [] kind e = cc
one-fault (a ∷ tail) kind e = absurd (cc)

two-fault : (bytes : List ℕ) (kind : DerKind) → two_at bytes ≡ Err kind → kind ≡ Short
two-fault [] kind e = cc
two-fault (a ∷ []) kind e = cc
two-fault (a ∷ (b ∷ tail)) kind e = absurd (cc)

three-fault : (bytes : List ℕ) (kind : DerKind) → three_at bytes ≡ Err kind → kind ≡ Short
three-fault [] kind e = cc
three-fault (a ∷ []) kind e = cc
three-fault (a ∷ (b ∷ [])) kind e = cc
three-fault (a ∷ (b ∷ (c ∷ tail))) kind e = absurd (cc)

four-fault : (bytes : List ℕ) (kind : DerKind) → four_at bytes ≡ Err kind → kind ≡ Short
four-fault [] kind e = cc
four-fault (a ∷ []) kind e = cc
four-fault (a ∷ (b ∷ [])) kind e = cc
four-fault (a ∷ (b ∷ (c ∷ []))) kind e = cc
four-fault (a ∷ (b ∷ (c ∷ (d ∷ tail)))) kind e = absurd (cc)

digits-fault : (first : ℕ) (bytes : List ℕ) (kind : DerKind) → Forms first → digits_at first bytes ≡ Err kind → kind ≡ Short
digits-fault first bytes kind f =
    let P : ℕ → Type 0 = λ k. digits_at k bytes ≡ Err kind → kind ≡ Short in
    by-form P first f (one-fault bytes kind) (two-fault bytes kind) (three-fault bytes kind) (four-fault bytes kind)

-- The bytes are a length but for its last bytes.
pub record Completed (bytes : List ℕ) : Type 0 where
  pub n : ℕ
  pub missing : List ℕ
  pub small : n < 2 ^ 32
  pub some : IsSome missing
  pub whole : bytes ++ missing ≡ length_bytes n

pub some-is : (x : ℕ) (xs : List ℕ) → IsSome (x ∷ xs)
some-is x xs e = absurd (cc)

short_1 : (bytes : List ℕ) → AreBytes bytes → is_padded 0x81 bytes ≡ false → one_at bytes ≡ Err Short → Completed (0x81 ∷ bytes)
short_1 [] are p e = record { n = 0x80; missing = 0x80 ∷ []; small = omega arith; some = some-is 0x80 []; whole = refl }
short_1 (a ∷ tail) are p e = absurd (cc)

short_2 : (bytes : List ℕ) → AreBytes bytes → is_padded 0x82 bytes ≡ false → two_at bytes ≡ Err Short → Completed (0x82 ∷ bytes)
short_2 [] are p e = record { n = 2 ^ 8; missing = 1 ∷ (0 ∷ []); small = omega arith; some = some-is 1 (0 ∷ []); whole = refl }
short_2 (a ∷ []) are p e = let low : a < 256 = are.each 0 in record { n = a * 2 ^ 8 + 0; missing = 0 ∷ []; small = omega arith; some = some-is 0 []; whole = sym (spelled_2 a 0 (positive a p) low (omega arith)) }
short_2 (a ∷ (b ∷ tail)) are p e = absurd (cc)

short_3 : (bytes : List ℕ) → AreBytes bytes → is_padded 0x83 bytes ≡ false → three_at bytes ≡ Err Short → Completed (0x83 ∷ bytes)
short_3 [] are p e = record { n = 2 ^ 16; missing = 1 ∷ (0 ∷ (0 ∷ [])); small = omega arith; some = some-is 1 (0 ∷ (0 ∷ [])); whole = refl }
short_3 (a ∷ []) are p e = let low : a < 256 = are.each 0 in record { n = (a * 2 ^ 8 + 0) * 2 ^ 8 + 0; missing = 0 ∷ (0 ∷ []); small = omega arith; some = some-is 0 (0 ∷ []); whole = sym (spelled_3 a 0 0 (positive a p) low (omega arith) (omega arith)) }
short_3 (a ∷ (b ∷ [])) are p e = let low : a < 256 = are.each 0 in let low_b : b < 256 = are.each 1 in record { n = (a * 2 ^ 8 + b) * 2 ^ 8 + 0; missing = 0 ∷ []; small = omega arith; some = some-is 0 []; whole = sym (spelled_3 a b 0 (positive a p) low low_b (omega arith)) }
short_3 (a ∷ (b ∷ (c ∷ tail))) are p e = absurd (cc)

short_4 : (bytes : List ℕ) → AreBytes bytes → is_padded 0x84 bytes ≡ false → four_at bytes ≡ Err Short → Completed (0x84 ∷ bytes)
short_4 [] are p e = record { n = 2 ^ 24; missing = 1 ∷ (0 ∷ (0 ∷ (0 ∷ []))); small = omega arith; some = some-is 1 (0 ∷ (0 ∷ (0 ∷ []))); whole = refl }
short_4 (a ∷ []) are p e = let low : a < 256 = are.each 0 in record { n = ((a * 2 ^ 8 + 0) * 2 ^ 8 + 0) * 2 ^ 8 + 0; missing = 0 ∷ (0 ∷ (0 ∷ [])); small = omega arith; some = some-is 0 (0 ∷ (0 ∷ [])); whole = sym (spelled_4 a 0 0 0 (positive a p) low (omega arith) (omega arith) (omega arith)) }
short_4 (a ∷ (b ∷ [])) are p e = let low : a < 256 = are.each 0 in let low_b : b < 256 = are.each 1 in record { n = ((a * 2 ^ 8 + b) * 2 ^ 8 + 0) * 2 ^ 8 + 0; missing = 0 ∷ (0 ∷ []); small = omega arith; some = some-is 0 (0 ∷ []); whole = sym (spelled_4 a b 0 0 (positive a p) low low_b (omega arith) (omega arith)) }
short_4 (a ∷ (b ∷ (c ∷ []))) are p e = let low : a < 256 = are.each 0 in let low_b : b < 256 = are.each 1 in let low_c : c < 256 = are.each 2 in record { n = ((a * 2 ^ 8 + b) * 2 ^ 8 + c) * 2 ^ 8 + 0; missing = 0 ∷ []; small = omega arith; some = some-is 0 []; whole = sym (spelled_4 a b c 0 (positive a p) low low_b low_c (omega arith)) }
short_4 (a ∷ (b ∷ (c ∷ (d ∷ tail)))) are p e = absurd (cc)

-- a refused length stays refused, whatever follows
either-grows : (a b c d : Bool) → (c ≡ true → d ≡ true) → (a || (b || c)) ≡ true → (a || (b || d)) ≡ true
either-grows true b c d g e = refl
either-grows false true c d g e = refl
either-grows false false c d g e = g e

padded-stays : (first : ℕ) (bytes more : List ℕ) → is_padded first bytes ≡ true → is_padded first (bytes ++ more) ≡ true
padded-stays first [] more e = absurd (cc)
padded-stays first (d ∷ ds) more e = e

-- what is wrong with a length
abbrev pub LengthFault : List ℕ → DerKind → Type 0
LengthFault bytes Short = Completed bytes
LengthFault bytes HighTag = ⊥
LengthFault bytes Length = (more : List ℕ) → length_at (bytes ++ more) ≡ Err Length
LengthFault bytes Trailing = ⊥

long-refused : (first : ℕ) (bytes : List ℕ) (kind : DerKind) → 0x80 ≤ first → is_refused first bytes ≡ true → LengthFault (first ∷ bytes) Length
long-refused first bytes kind l h = λ more.
    let t : nat_lt first 0x80 ≡ false = grind (arith, nat_tests) in
    let r : is_refused first (bytes ++ more) ≡ true = either-grows (first == 0x80) (nat_lt 0x84 first) (is_padded first bytes) (is_padded first (bytes ++ more)) (padded-stays first bytes more) h in
    rw t (rw r refl)

long-short : (first : ℕ) (bytes : List ℕ) → AreBytes bytes → Forms first → is_padded first bytes ≡ false → digits_at first bytes ≡ Err Short → Completed (first ∷ bytes)
long-short first bytes are f =
    let P : ℕ → Type 0 = λ k. is_padded k bytes ≡ false → digits_at k bytes ≡ Err Short → Completed (k ∷ bytes) in
    by-form P first f (short_1 bytes are) (short_2 bytes are) (short_3 bytes are) (short_4 bytes are)

long-fault : (first : ℕ) (bytes : List ℕ) (kind : DerKind) → AreBytes bytes → 0x80 ≤ first → long_at first bytes ≡ Err kind → LengthFault (first ∷ bytes) kind
long-fault first bytes kind are l e = elim (if-cases (is_refused first bytes) (Err Length) (digits_at first bytes) (Err kind) e) [
  | inl h ↦ let q : Length ≡ kind = cc in subst (LengthFault (first ∷ bytes)) q (long-refused first bytes kind l h.0)
  | inr h ↦
      let i = is-form first bytes h.0 in
      let f = forms first bytes l i in
      let q : kind ≡ Short = digits-fault first bytes kind f h.1 in
      let short : digits_at first bytes ≡ Err Short = h.1 ∙ ap (λ k. Err k) q in
      subst (LengthFault (first ∷ bytes)) (sym q) (long-short first bytes are f i.padded short)
]

pub length-fault : (bytes : List ℕ) (kind : DerKind) → AreBytes bytes → length_at bytes ≡ Err kind → LengthFault bytes kind
length-fault [] kind are e = let q : Short ≡ kind = cc in subst (LengthFault []) q (record { n = 0; missing = 0 ∷ []; small = omega arith; some = some-is 0 []; whole = refl })
length-fault (first ∷ bytes) kind are e = elim (if-cases (nat_lt first 0x80) (read first bytes) (long_at first bytes) (Err kind) e) [
  | inl h ↦ absurd (cc)
  | inr h ↦ long-fault first bytes kind (bytes-behind (first ∷ []) bytes are) (ltb-false first 0x80 h.0) h.1
]

-- ---- what is left is shorter

one-shorter : (bytes rest : List ℕ) (n : ℕ) → one_at bytes ≡ read n rest → length rest ≤ length bytes
one-shorter [] rest n e = absurd (cc)
one-shorter (a ∷ tail) rest n e = omega (arith, ap length (same-rest a n tail rest e))

two-shorter : (bytes rest : List ℕ) (n : ℕ) → two_at bytes ≡ read n rest → length rest ≤ length bytes
two-shorter [] rest n e = absurd (cc)
two-shorter (a ∷ []) rest n e = absurd (cc)
two-shorter (a ∷ (b ∷ tail)) rest n e = omega (arith, ap length (same-rest _ n tail rest e))

three-shorter : (bytes rest : List ℕ) (n : ℕ) → three_at bytes ≡ read n rest → length rest ≤ length bytes
three-shorter [] rest n e = absurd (cc)
three-shorter (a ∷ []) rest n e = absurd (cc)
three-shorter (a ∷ (b ∷ [])) rest n e = absurd (cc)
three-shorter (a ∷ (b ∷ (c ∷ tail))) rest n e = omega (arith, ap length (same-rest _ n tail rest e))

four-shorter : (bytes rest : List ℕ) (n : ℕ) → four_at bytes ≡ read n rest → length rest ≤ length bytes
four-shorter [] rest n e = absurd (cc)
four-shorter (a ∷ []) rest n e = absurd (cc)
four-shorter (a ∷ (b ∷ [])) rest n e = absurd (cc)
four-shorter (a ∷ (b ∷ (c ∷ []))) rest n e = absurd (cc)
four-shorter (a ∷ (b ∷ (c ∷ (d ∷ tail)))) rest n e = omega (arith, ap length (same-rest _ n tail rest e))

long-shorter : (first : ℕ) (bytes rest : List ℕ) (n : ℕ) → 0x80 ≤ first → long_at first bytes ≡ read n rest → length rest ≤ length bytes
long-shorter first bytes rest n l e = elim (if-cases (is_refused first bytes) (Err Length) (digits_at first bytes) (read n rest) e) [
  | inl h ↦ absurd (cc)
  | inr h ↦
      let P : ℕ → Type 0 = λ k. digits_at k bytes ≡ read n rest → length rest ≤ length bytes in
      by-form P first (forms first bytes l (is-form first bytes h.0)) (one-shorter bytes rest n) (two-shorter bytes rest n) (three-shorter bytes rest n) (four-shorter bytes rest n) h.1
]

pub length-shorter : (bytes rest : List ℕ) (n : ℕ) → length_at bytes ≡ read n rest → length rest < length bytes
length-shorter [] rest n e = absurd (cc)
length-shorter (first ∷ bytes) rest n e = elim (if-cases (nat_lt first 0x80) (read first bytes) (long_at first bytes) (read n rest) e) [
  | inl h ↦ omega (arith, ap length (same-rest first n bytes rest h.1))
  | inr h ↦ omega (arith, long-shorter first bytes rest n (ltb-false first 0x80 h.0) h.1)
]
