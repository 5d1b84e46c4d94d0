-- Steps that may fail, one after the other.
use Rattle.std.specs.Prelude.{List, [], ◌∷◌, Option, Some, None, Result, Ok, Err}

-- the first fault, or what the next step gives
infixl 10 ◌>>=◌
abbrev pub ◌>>=◌ : {A B E : Type 0} → Result A E → (A → Result B E) → Result B E
(Ok value) >>= step = step value
(Err fault) >>= step = Err fault

-- a value, or this fault where there is none
abbrev pub or_fault : {A E : Type 0} → E → Option A → Result A E
or_fault fault None = Err fault
or_fault fault (Some value) = Ok value

-- what each of the values gives, in order, or the first fault
abbrev pub each : {A B E : Type 0} → (A → Result B E) → List A → Result (List B) E
each step [] = Ok []
each step (value ∷ values) = do
  first ← step value
  others ← each step values
  Ok (first ∷ others)
