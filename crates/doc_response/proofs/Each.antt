-- Reading each part of a list, one part after the other.
use Rattle.std.proofs.Common.{◌≡◌, true, false, List, [], ◌∷◌, Option, Some, None, Ok, Err, refl}
use Rattle.std.specs.Prelude.{is_some, unwrap_or}
use Rattle.mdoc_outside.specs.OptionSteps.{◌>>=◌, each}
use Rattle.mdoc_outside.specs.ResultSteps.{or_fault}

pub each_more : {A B : Type 0} (step : A → Option B) (x : A) (xs : List A) → is_some (step x) ≡ true → is_some (each step (x ∷ xs)) ≡ is_some (each step xs)
each_more {A} {B} step x xs = go (step x) (each step xs) where
  go : (o : Option B) (rest : Option (List B)) → is_some o ≡ true → is_some (o >>= λ y. rest >>= λ ys. Some (y ∷ ys)) ≡ is_some rest
  go None rest some = absurd cc
  go (Some y) None some = refl
  go (Some y) (Some ys) some = refl

pub each_stopped : {A B : Type 0} (step : A → Option B) (x : A) (xs : List A) → is_some (step x) ≡ false → is_some (each step (x ∷ xs)) ≡ false
each_stopped {A} {B} step x xs = go (step x) (each step xs) where
  go : (o : Option B) (rest : Option (List B)) → is_some o ≡ false → is_some (o >>= λ y. rest >>= λ ys. Some (y ∷ ys)) ≡ false
  go None rest none = refl
  go (Some y) rest none = absurd cc

pub each_first : {A B : Type 0} (step : A → Option B) (x : A) (xs : List A) → is_some (each step (x ∷ xs)) ≡ true → is_some (step x) ≡ true
each_first {A} {B} step x xs = go (step x) (each step xs) where
  go : (o : Option B) (rest : Option (List B)) → is_some (o >>= λ y. rest >>= λ ys. Some (y ∷ ys)) ≡ true → is_some o ≡ true
  go None rest some = absurd cc
  go (Some y) rest some = refl

pub each_rest : {A B : Type 0} (step : A → Option B) (x : A) (xs : List A) → is_some (each step (x ∷ xs)) ≡ true → is_some (each step xs) ≡ true
each_rest {A} {B} step x xs = go (step x) (each step xs) where
  go : (o : Option B) (rest : Option (List B)) → is_some (o >>= λ y. rest >>= λ ys. Some (y ∷ ys)) ≡ true → is_some rest ≡ true
  go None rest some = absurd cc
  go (Some y) None some = absurd cc
  go (Some y) (Some ys) some = refl

pub each_value : {A B : Type 0} (step : A → Option B) (x : A) (xs : List A) (d : B) → is_some (each step (x ∷ xs)) ≡ true → unwrap_or (each step (x ∷ xs)) [] ≡ unwrap_or (step x) d ∷ unwrap_or (each step xs) []
each_value {A} {B} step x xs d = go (step x) (each step xs) where
  go : (o : Option B) (rest : Option (List B)) → is_some (o >>= λ y. rest >>= λ ys. Some (y ∷ ys)) ≡ true → unwrap_or (o >>= λ y. rest >>= λ ys. Some (y ∷ ys)) [] ≡ unwrap_or o d ∷ unwrap_or rest []
  go None rest some = absurd cc
  go (Some y) None some = absurd cc
  go (Some y) (Some ys) some = refl

-- a value that is there, or the fault
pub read_some : {A E : Type 0} (o : Option A) (d : A) (fault : E) → is_some o ≡ true → or_fault fault o ≡ Ok (unwrap_or o d)
read_some None d fault some = absurd cc
read_some (Some x) d fault some = refl

pub read_none : {A E : Type 0} (o : Option A) (fault : E) → is_some o ≡ false → or_fault fault o ≡ Err fault
read_none None fault none = refl
read_none (Some x) fault none = absurd cc
