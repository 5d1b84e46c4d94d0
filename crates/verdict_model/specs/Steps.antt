-- Checks that end a judgement: each is reached only where those before it hold, and a question is asked only where its
-- check is reached.
use Rattle.std.specs.Prelude.{Bool, true, false, Option, Some, None, Result, Ok, Err}
use Rattle.key_device.specs.Plan.{Plan, Done}
use Rattle.key_device.specs.PlanSteps.{mapped}
use Rattle.key_device.specs.declared.device_fault.DeviceFault.{DeviceFault}
use Rattle.verdict_model.specs.declared.doc_check.DocCheck.{DocCheck}

-- why the checks of a document end: one fails, or the reader's device failed to answer
pub data Stop : Type 0 where
  Refused : DocCheck → Stop
  Unanswered : Stop

-- a check that fails unless a test holds
abbrev pub check_that : DocCheck → Bool → Plan (Result (Unit {0}) Stop)
check_that check true = Done (Ok tt)
check_that check false = Done (Err (Refused check))

-- what has to be there
abbrev pub needed : {A : Type 0} → DocCheck → Option A → Plan (Result A Stop)
needed check (Some value) = Done (Ok value)
needed check None = Done (Err (Refused check))

abbrev pub or_unanswered : {A : Type 0} → Result A DeviceFault → Result A Stop
or_unanswered (Ok value) = Ok value
or_unanswered (Err fault) = Err Unanswered

-- what the device is asked
abbrev pub asked_of_device : {A : Type 0} → Plan (Result A DeviceFault) → Plan (Result A Stop)
asked_of_device plan = mapped or_unanswered plan
