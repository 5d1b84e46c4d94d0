-- What a plan of failing calls keeps.
use Rattle.std.specs.Prelude.{◌≡◌, ◌+◌, ◌-◌, ◌^◌, ℕ, List, min, Contains, Result, IsErrOf, OnOk}
use Rattle.mdoc_outside.specs.declared.call_plan.CallPlan.{CallPlan}

-- the numbers of the calls that fail
abbrev pub planned : CallPlan → List ℕ
planned plan = plan.fails.items

-- the number of the next call
abbrev pub call_number : CallPlan → ℕ
call_number plan = plan.calls

-- how many calls failed
abbrev pub fault_count : CallPlan → ℕ
fault_count plan = plan.faults

-- the number of a call and that of the next one, which stays at its last value
abbrev pub IsNextCall : ℕ → ℕ → Type 0
IsNextCall call next = next ≡ min (call + 1) (2 ^ 64 - 1)

-- A call goes as planned: it fails where the plan says so and nowhere else, and is counted. Where memory was wanting
-- it isn't.
pub record GoesAsPlanned {T E : Type 0} (failed memory : E) (planned_calls : List ℕ) (call next : ℕ) (result : Result T E) : Type 0 where
  pub fails : IsErrOf result failed → Contains planned_calls call × IsNextCall call next
  pub works : OnOk result ((Contains planned_calls call → ⊥) × IsNextCall call next)
  pub wanting : IsErrOf result memory → next ≡ call
