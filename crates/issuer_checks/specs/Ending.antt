-- What the calls of these checks come to, as the definition has it.
use Rattle.std.specs.Prelude.{Bool, true, false, Option, Some, None, Result, Ok, Err}
use Rattle.issuer_checks.specs.declared.check_end.CheckEnd as read
use Rattle.issuer_checks.specs.declared.check_end.CheckEnd.TheVariants as stops
use Rattle.verdict_model.specs.Steps.{Stop, Refused, Unanswered}
use Rattle.verdict_model.specs.declared.doc_check.DocCheck.{DocCheck}

-- of a call that asks; want of memory is no outcome
abbrev pub came_to : {A B : Type 0} → (A → B) → Result A read.CheckEnd → Option (Result B Stop)
came_to view (Ok value) = Some (Ok (view value))
came_to view (Err (stops.Refused check)) = Some (Err (Refused check))
came_to view (Err stops.Device) = Some (Err Unanswered)
came_to view (Err stops.Memory) = None

-- of a call that asks nothing
abbrev pub checked : {A B : Type 0} → (A → B) → Result A DocCheck → Result B Stop
checked view (Ok value) = Ok (view value)
checked view (Err check) = Err (Refused check)

-- whether a check ended since the device failed to answer
abbrev pub is_device : read.CheckEnd → Bool
is_device stops.Device = true
is_device (stops.Refused check) = false
is_device stops.Memory = false

abbrev pub fails : {A : Type 0} → Result A read.CheckEnd → Bool
fails (Ok value) = false
fails (Err stop) = is_device stop
