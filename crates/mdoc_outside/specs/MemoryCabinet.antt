-- What contracts see of a cabinet in memory.
use Rattle.std.specs.Prelude.{ℕ, List, Some}
use Rattle.mdoc_outside.specs.Cabinet.{CabinetTold}
use Rattle.mdoc_outside.specs.CallPlan.{planned, call_number, fault_count}
use Rattle.mdoc_outside.specs.State.{State}
use Rattle.mdoc_outside.specs.declared.memory_cabinet.MemoryCabinet.{MemoryCabinet}

-- its files and its calls
abbrev pub told : MemoryCabinet → CabinetTold
told cabinet = cabinet.log

-- how many of its calls failed
abbrev pub fault_number : MemoryCabinet → ℕ
fault_number cabinet = fault_count cabinet.plan

-- it tells
abbrev pub cabinet_state : MemoryCabinet → State CabinetTold
cabinet_state cabinet = record { told = Some (told cabinet); faults = fault_number cabinet }

-- the numbers of its calls that fail, from 0
abbrev pub failing_calls : MemoryCabinet → List ℕ
failing_calls cabinet = planned cabinet.plan

-- the number of its next call
abbrev pub next_call : MemoryCabinet → ℕ
next_call cabinet = call_number cabinet.plan
