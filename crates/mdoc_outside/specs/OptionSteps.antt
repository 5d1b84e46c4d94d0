-- Steps that may come to nothing, one after the other.
use Rattle.std.specs.Prelude.{List, [], ◌∷◌, Bool, true, false, Option, Some, None}

-- the second step, where the first gave a value
infixl 10 ◌>>=◌
abbrev pub ◌>>=◌ : {A B : Type 0} → Option A → (A → Option B) → Option B
None >>= step = None
(Some value) >>= step = step value

-- a value of which a test holds
abbrev pub where_true : {A : Type 0} → Bool → A → Option A
where_true false value = None
where_true true value = Some value

-- a fault, unless a test passes
abbrev pub unless : {A : Type 0} → Bool → A → Option A
unless true fault = None
unless false fault = Some fault

-- each of a list, where none comes to nothing
abbrev pub each : {A B : Type 0} → (A → Option B) → List A → Option (List B)
each step [] = Some []
each step (x ∷ xs) = step x >>= λ y. each step xs >>= λ ys. Some (y ∷ ys)
