-- What the parts of a thing that was read say.
use Rattle.std.proofs.Common.{◌≡◌, ℕ, zero, ◌<◌, suc, true, List, [], ◌∷◌, length, Option, Some, None, refl, sym, ap, ◌∙◌, arith}
use Rattle.std.specs.Prelude.{is_some, option_map, unwrap_or, slice_get}
use Rattle.mdoc_outside.specs.OptionSteps.{◌>>=◌, each}
use Rattle.doc_store.specs.Parts.{value_or}

-- ---- the parts of a list

pub record First {A B : Type 0} (step : A → Option B) (d : B) (x : A) (xs : List A) : Type 0 where
  pub given : step x ≡ Some (value_or d step x)
  pub read : is_some (step x) ≡ true
  pub rest : is_some (each step xs) ≡ true
  pub whole : unwrap_or (each step (x ∷ xs)) [] ≡ value_or d step x ∷ unwrap_or (each step xs) []

-- the first part of a list whose parts can be read
pub first_of_each : {A B : Type 0} (step : A → Option B) (d : B) (x : A) (xs : List A) → is_some (each step (x ∷ xs)) ≡ true → First step d x xs
first_of_each {A} {B} step d x xs read = go (step x) (each step xs) refl refl read where
  go : (o : Option B) (rest : Option (List B)) → step x ≡ o → each step xs ≡ rest →
      is_some (o >>= λ y. rest >>= λ ys. Some (y ∷ ys)) ≡ true → First step d x xs
  go None rest one more e = cc
  go (Some y) None one more e = cc
  go (Some y) (Some ys) one more e = record {
    given = rw one refl;
    read = rw one refl;
    rest = rw more refl;
    whole = rw (one, more) refl;
  }

-- the part at a place
pub each-get : {A B : Type 0} (step : A → Option B) (d : B) (xs : List A) (n : ℕ) → is_some (each step xs) ≡ true →
    slice_get (unwrap_or (each step xs) []) n ≡ option_map (value_or d step) (slice_get xs n)
each-get step d [] n read = refl
each-get step d (x ∷ xs) zero read = let first = first_of_each step d x xs read in rw first.whole refl
each-get step d (x ∷ xs) (suc n) read = let first = first_of_each step d x xs read in rw first.whole (each-get step d xs n first.rest)

pub each-get-read : {A B : Type 0} (step : A → Option B) (xs : List A) (n : ℕ) (x : A) → is_some (each step xs) ≡ true →
    slice_get xs n ≡ Some x → is_some (step x) ≡ true
each-get-read step [] n x read at = cc
each-get-read {A} {B} step (y ∷ xs) zero x read at = go (step y) refl read where
  go : (o : Option B) → step y ≡ o → is_some (o >>= λ z. each step xs >>= λ ys. Some (z ∷ ys)) ≡ true → is_some (step x) ≡ true
  go None one e = cc
  go (Some z) one e = let same : y ≡ x = cc in rw (← same, one) refl
each-get-read {A} {B} step (y ∷ xs) (suc n) x read at = each-get-read step xs n x (go (step y) (each step xs) refl read) at where
  go : (o : Option B) (rest : Option (List B)) → each step xs ≡ rest → is_some (o >>= λ z. rest >>= λ ys. Some (z ∷ ys)) ≡ true → is_some (each step xs) ≡ true
  go None rest more e = cc
  go (Some z) None more e = cc
  go (Some z) (Some ys) more e = rw more refl

pub record At {A B : Type 0} (step : A → Option B) (d : B) (ys : List B) (n : ℕ) (x : A) : Type 0 where
  pub given : slice_get ys n ≡ Some (value_or d step x)
  pub read : is_some (step x) ≡ true

-- what the part at a place says is at that place
pub each_at : {A B : Type 0} (step : A → Option B) (d : B) (xs : List A) (ys : List B) (n : ℕ) (x : A) →
    each step xs ≡ Some ys → slice_get xs n ≡ Some x → At step d ys n x
each_at {A} {B} step d xs ys n x given at =
    let read : is_some (each step xs) ≡ true = rw given refl in
    let got : slice_get (unwrap_or (each step xs) []) n ≡ option_map (value_or d step) (slice_get xs n) = each-get step d xs n read in
    record {
      given = sym (ap (λ (o : Option (List B)). slice_get (unwrap_or o []) n) given) ∙ got ∙ ap (option_map (value_or d step)) at;
      read = each-get-read step xs n x read at;
    }

-- there is a part at each place within
pub none_at : {A B : Type 0} (step : A → Option B) (xs : List A) (ys : List B) (n : ℕ) →
    each step xs ≡ Some ys → n < length ys → slice_get xs n ≡ None → ⊥
none_at step [] ys n given within at = let same : ys ≡ [] = cc in absurd (omega (arith, ap length same))
none_at {A} {B} step (x ∷ xs) ys zero given within at = cc
none_at {A} {B} step (x ∷ xs) ys (suc n) given within at =
    go (step x) (each step xs) (λ zs more less. none_at step xs zs n more less at) given where
      go : (o : Option B) (rest : Option (List B)) → ((zs : List B) → rest ≡ Some zs → n < length zs → ⊥) → (o >>= λ z. rest >>= λ zs. Some (z ∷ zs)) ≡ Some ys → ⊥
      go None rest known e = cc
      go (Some z) None known e = cc
      go (Some z) (Some zs) known e =
          let same : ys ≡ z ∷ zs = cc in
          known zs refl (omega (arith, ap length same))
