-- The salts of items, as plans of words of dice.
use Rattle.std.specs.Prelude.{ℕ, List, ◌++◌, Result, Ok}
use Rattle.std.specs.Int.{w64, to_be_bytes}
use Rattle.key_device.specs.Plan.{Plan, Done, Draw}
use Rattle.key_device.specs.PlanSteps.{◌>>=◌, times}
use Rattle.issuing.specs.declared.issue_fault.IssueFault.{IssueFault}

abbrev pub word : Plan (Result ℕ IssueFault)
word = Draw (λ drawn. Done (Ok drawn))

-- a salt of 32 bytes: four words, each with its highest byte first
abbrev pub salt_of : ℕ → ℕ → ℕ → ℕ → List ℕ
salt_of first second third fourth = to_be_bytes w64 first ++ to_be_bytes w64 second ++ to_be_bytes w64 third ++ to_be_bytes w64 fourth

abbrev pub with_four : ℕ → ℕ → ℕ → ℕ → Plan (Result (List ℕ) IssueFault)
with_four first second third fourth = Done (Ok (salt_of first second third fourth))

abbrev pub with_three : ℕ → ℕ → ℕ → Plan (Result (List ℕ) IssueFault)
with_three first second third = word >>= with_four first second third

abbrev pub with_two : ℕ → ℕ → Plan (Result (List ℕ) IssueFault)
with_two first second = word >>= with_three first second

abbrev pub with_one : ℕ → Plan (Result (List ℕ) IssueFault)
with_one first = word >>= with_two first

unfoldable pub salt : Plan (Result (List ℕ) IssueFault)
salt = word >>= with_one

-- so many salts, one after the other
unfoldable pub salts : ℕ → Plan (Result (List (List ℕ)) IssueFault)
salts count = times count salt
