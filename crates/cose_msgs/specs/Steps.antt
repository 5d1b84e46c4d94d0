-- Checks, one after the other.
use Rattle.std.specs.Prelude.{ℕ, ◌==◌, if◌then◌else◌, Bool, true, false, List, length, Option, Some, None, Result, Ok, Err}

-- refuses where a test fails
abbrev pub check : {E : Type 0} → E → Bool → Result (Unit {0}) E
check fault true = Ok tt
check fault false = Err fault

-- a string of so many bytes
abbrev pub of_length : ℕ → Option (List ℕ) → Option (List ℕ)
of_length n None = None
of_length n (Some bytes) = if length bytes == n then Some bytes else None
