-- Items of a list in turn, as an iterator over it goes.
use Rattle.std.proofs.Common.{◌≡◌, ℕ, zero, suc, ◌<◌, List, [], ◌∷◌, length, take, drop, get_or, refl, ap, arith}

-- the first of those that are left is at its place
pub record IsNext {A : Type 0} (xs : List A) (i : ℕ) (x : A) (rest : List A) : Type 0 where
  pub within : i < length xs
  pub is : x ≡ get_or xs i x
  pub left : drop (suc i) xs ≡ rest

front_is : {A : Type 0} (y x : A) (ys rest : List A) → (y ∷ ys) ≡ (x ∷ rest) → (x ≡ y) × (ys ≡ rest)
front_is y x ys rest is = (cc, cc)

pub next_of : {A : Type 0} (xs : List A) (i : ℕ) (x : A) (rest : List A) → drop i xs ≡ x ∷ rest → IsNext xs i x rest
next_of [] zero x rest is = cc
next_of [] (suc i) x rest is = cc
next_of (y ∷ ys) zero x rest is = let both = front_is y x ys rest is in record { within = omega arith; is = both.0; left = both.1 }
next_of (y ∷ ys) (suc i) x rest is = let later = next_of ys i x rest is in record { within = omega arith; is = later.is; left = later.left }

pub all_taken : {A : Type 0} (xs : List A) (i : ℕ) → drop i xs ≡ [] → take i xs ≡ xs
all_taken [] zero none = refl
all_taken [] (suc i) none = refl
all_taken (y ∷ ys) zero none = cc
all_taken (y ∷ ys) (suc i) none = ap (λ (zs : List _). y ∷ zs) (all_taken ys i none)
