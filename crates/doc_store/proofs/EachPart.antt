-- Reading each part of a list.
use Rattle.std.proofs.Common.{◌≡◌, List, [], ◌∷◌, length, Option, Some, None, refl}
use Rattle.mdoc_outside.specs.OptionSteps.{◌>>=◌, each}

-- as many are read as there are
pub each_length : {A B : Type 0} (step : A → Option B) (xs : List A) (ys : List B) → each step xs ≡ Some ys → length ys ≡ length xs
each_length step [] ys given = let same : ys ≡ [] = cc in rw same refl
each_length {A} {B} step (x ∷ xs) ys given = one (step x) (each step xs) (each_length step xs) given where
  one : (o : Option B) (rest : Option (List B)) → ((zs : List B) → rest ≡ Some zs → length zs ≡ length xs) →
      (o >>= λ z. rest >>= λ zs. Some (z ∷ zs)) ≡ Some ys → length ys ≡ length (x ∷ xs)
  one None rest known e = cc
  one (Some z) None known e = cc
  one (Some z) (Some zs) known e = let same : ys ≡ z ∷ zs = cc in rw (same, known zs refl) refl
