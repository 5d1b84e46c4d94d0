-- What contracts see of an object of the outside: what it tells, if it tells, and how often it has failed.
use Rattle.std.specs.Prelude.{◌≡◌, ◌≤◌, ℕ, Option, option_map}
use Rattle.mdoc_outside.specs.Faults.{Rose}

pub record State (Told : Type 0) : Type 0 where
  pub told : Option Told
  pub faults : ℕ

-- An object that tells has gained this; the count of faults is as it was, and so is an object that doesn't tell.
abbrev pub after_call : {Told : Type 0} → (Told → Told) → State Told → State Told
after_call gain old = record { told = option_map gain old.told; faults = old.faults }

-- A call that failed: an object that tells has gained this, and the count of faults rose.
pub record CallFails {Told : Type 0} (gain : Told → Told) (old new : State Told) : Type 0 where
  pub told : new.told ≡ option_map gain old.told
  pub rose : Rose old.faults new.faults
  -- the count never falls
  pub later : old.faults ≤ new.faults
