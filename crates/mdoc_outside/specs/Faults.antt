-- When an object of the outside may answer that it failed: only in a call in which it did.
use Rattle.std.specs.Prelude.{◌≡◌, ◌≤◌, ◌+◌, ◌-◌, ◌^◌, ℕ, min, Result, IsErrOf, OnOk}

-- The count of faults rose in a call. A counter stays at its last value, where it counts as risen.
abbrev pub Rose : ℕ → ℕ → Type 0
Rose before now = min (before + 1) (2 ^ 64 - 1) ≤ now

-- A count after one more fault, at most its last value.
abbrev pub one_more : ℕ → ℕ
one_more count = min (count + 1) (2 ^ 64 - 1)

-- The count of an object in memory: a call that answers `failed` raises it by exactly one, and each
-- other call leaves it.
pub record CountsOne {T E : Type 0} (failed : E) (before now : ℕ) (result : Result T E) : Type 0 where
  pub rose : IsErrOf result failed → now ≡ one_more before
  pub same : (IsErrOf result failed → ⊥) → now ≡ before

-- What a call's answer says of the count of faults before and after it.
pub record HasCause {T E : Type 0} (failed memory : E) (before now : ℕ) (result : Result T E)
    : Type 0 where
  -- the count never falls
  pub later : before ≤ now
  -- `failed` is answered only where it rose
  pub rose : IsErrOf result failed → Rose before now
  -- each other answer leaves it
  pub done : OnOk result (now ≡ before)
  pub out_of_memory : IsErrOf result memory → now ≡ before
