-- What a call that appends to bytes shows of the plan that it follows.
use Rattle.std.specs.Prelude.{◌≡◌, ℕ, List, ◌++◌, Result, Ok, Err}

-- The bytes of a value were appended, and the plan came to that value.
pub record AppendsValue {A E : Type 0} (bytes : A → List ℕ) (came : Result A E → Type 0) (old new : List ℕ) : Type 0 where
  pub value : A
  pub joined : new ≡ old ++ bytes value
  pub asked : came (Ok value)

-- so on success; a fault is the plan's, whatever was appended
abbrev pub Appends : {A E : Type 0} → (A → List ℕ) → (Result A E → Type 0) → List ℕ → List ℕ → Result (Unit {0}) E → Type 0
Appends bytes came old new (Ok u) = AppendsValue bytes came old new
Appends bytes came old new (Err fault) = came (Err fault)
