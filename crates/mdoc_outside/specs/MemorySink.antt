-- What contracts see of a sink in memory.
use Rattle.std.specs.Prelude.{ℕ, List, Some}
use Rattle.mdoc_outside.specs.CallPlan.{planned, call_number, fault_count}
use Rattle.mdoc_outside.specs.State.{State}
use Rattle.mdoc_outside.specs.declared.memory_sink.MemorySink.{MemorySink}
use Rattle.mdoc_outside.specs.declared.sink_call.SinkCall.{SinkCall}

-- its calls
abbrev pub told : MemorySink → List SinkCall
told sink = sink.log

-- how many of its calls failed
abbrev pub fault_number : MemorySink → ℕ
fault_number sink = fault_count sink.plan

-- it tells
abbrev pub sink_state : MemorySink → State (List SinkCall)
sink_state sink = record { told = Some (told sink); faults = fault_number sink }

-- the numbers of its calls that fail, from 0
abbrev pub failing_calls : MemorySink → List ℕ
failing_calls sink = planned sink.plan

-- the number of its next call
abbrev pub next_call : MemorySink → ℕ
next_call sink = call_number sink.plan
