-- The INTEGER that is written of a number is read as that number.
use Rattle.std.proofs.Common.{◌≡◌, ℕ, suc, ◌-◌, ◌==◌, ◌≤◌, refl, sym, ap, ◌∙◌, arith, Bool, true, false, List, [], ◌∷◌, ◌++◌, length, Some}
use Rattle.std.specs.Prelude.{nat_lt, nat_le, replicate, if◌then◌else◌}
use Rattle.std.proofs.lemmas.Bool.{eqb-true}
use Rattle.std.proofs.lemmas.Bool.Decides.{nat_tests}
use Rattle.cert_view.specs.Integers.{digits, number_of}
use Rattle.cert_view.specs.Written.{without_zeros, sign}

-- digits that begin with none but 0 are read after their sign
first-read : (byte : ℕ) (bytes : List ℕ) → (byte == 0) ≡ false → digits (sign (byte ∷ bytes) ++ (byte ∷ bytes)) ≡ Some (byte ∷ bytes)
first-read byte bytes some = go (nat_lt byte 0x80) refl where
  go : (low : Bool) → nat_lt byte 0x80 ≡ low → digits ((if low then [] else 0 ∷ []) ++ (byte ∷ bytes)) ≡ Some (byte ∷ bytes)
  go true is = rw (some, is) refl
  go false is = rw is refl

digits-read : (bytes : List ℕ) → digits (sign (without_zeros bytes) ++ without_zeros bytes) ≡ Some (without_zeros bytes)
digits-read [] = refl
digits-read (byte ∷ bytes) = go (byte == 0) refl (digits-read bytes) where
  go : (none : Bool) → (byte == 0) ≡ none → digits (sign (without_zeros bytes) ++ without_zeros bytes) ≡ Some (without_zeros bytes) → digits (sign (if none then without_zeros bytes else byte ∷ bytes) ++ (if none then without_zeros bytes else byte ∷ bytes)) ≡ Some (if none then without_zeros bytes else byte ∷ bytes)
  go true is rest = rest
  go false is rest = first-read byte bytes is

fewer : (bytes : List ℕ) → length (without_zeros bytes) ≤ length bytes
fewer [] = omega arith
fewer (byte ∷ bytes) = go (byte == 0) (fewer bytes) where
  go : (none : Bool) → length (without_zeros bytes) ≤ length bytes → length (if none then without_zeros bytes else byte ∷ bytes) ≤ suc (length bytes)
  go true rest = omega (arith, rest)
  go false rest = omega arith

padded : (bytes : List ℕ) → replicate (length bytes - length (without_zeros bytes)) 0 ++ without_zeros bytes ≡ bytes
padded [] = refl
padded (byte ∷ bytes) = go (byte == 0) refl (padded bytes) where
  go : (none : Bool) → (byte == 0) ≡ none → replicate (length bytes - length (without_zeros bytes)) 0 ++ without_zeros bytes ≡ bytes → replicate (suc (length bytes) - length (if none then without_zeros bytes else byte ∷ bytes)) 0 ++ (if none then without_zeros bytes else byte ∷ bytes) ≡ byte ∷ bytes
  go true is rest =
      let more : suc (length bytes) - length (without_zeros bytes) ≡ suc (length bytes - length (without_zeros bytes)) = omega (arith, fewer bytes) in
      rw more (rw (eqb-true byte 0 is) (ap (λ (bs : List ℕ). 0 ∷ bs) rest))
  go false is rest =
      let none : suc (length bytes) - suc (length bytes) ≡ 0 = omega arith in
      rw none refl

pub number-read : (bytes : List ℕ) → length bytes ≡ 32 → number_of (sign (without_zeros bytes) ++ without_zeros bytes) ≡ Some bytes
unfolding number_of
number-read bytes is =
    let few : nat_le (length (without_zeros bytes)) 32 ≡ true = grind (arith, nat_tests, fewer bytes) in
    let all : replicate (32 - length (without_zeros bytes)) 0 ++ without_zeros bytes ≡ bytes = ap (λ (n : ℕ). replicate (n - length (without_zeros bytes)) 0 ++ without_zeros bytes) (sym is) ∙ padded bytes in
    rw (digits-read bytes) (rw few (ap (λ (b : List ℕ). Some b) all))
