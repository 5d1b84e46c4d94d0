-- What a sink tells: its puts in order, each with its bytes and its answer.
use Rattle.std.specs.Prelude.{◌≡◌, ℕ, List, [], ◌∷◌, ◌++◌, Result, Ok, Err}
use Rattle.mdoc_outside.specs.State.{State, after_call, CallFails}
use Rattle.mdoc_outside.specs.declared.sink_call.SinkCall.{SinkCall}
use Rattle.mdoc_outside.specs.declared.sink_call.SinkCall.TheVariants.{Put, PutFailed}
use Rattle.mdoc_outside.specs.declared.sink_fault.SinkFault.{SinkFault}
use Rattle.mdoc_outside.specs.declared.sink_fault.SinkFault.TheVariants.{Failed, Memory}

-- one call more
abbrev pub with_call : SinkCall → List SinkCall → List SinkCall
with_call call calls = calls ++ call ∷ []

abbrev pub sink_after : SinkCall → State (List SinkCall) → State (List SinkCall)
sink_after call old = after_call (with_call call) old

-- What a put leaves: that call alone is gained; want of memory changes nothing.
abbrev pub Puts : State (List SinkCall) → State (List SinkCall) → List ℕ → Result (Unit {0}) SinkFault → Type 0
Puts old new bytes (Ok u) = new ≡ sink_after (Put bytes) old
Puts old new bytes (Err Failed) = CallFails (with_call (PutFailed bytes)) old new
Puts old new bytes (Err Memory) = new ≡ old

-- the bytes of a sink: its puts, joined
abbrev pub bytes_put : List SinkCall → List ℕ
bytes_put [] = []
bytes_put ((Put bytes) ∷ calls) = bytes ++ bytes_put calls
bytes_put ((PutFailed bytes) ∷ calls) = bytes_put calls
