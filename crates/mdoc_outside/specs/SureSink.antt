-- What contracts see of a sink in memory that never fails.
use Rattle.std.specs.Prelude.{List, Some}
use Rattle.mdoc_outside.specs.State.{State}
use Rattle.mdoc_outside.specs.declared.sink_call.SinkCall.{SinkCall}
use Rattle.mdoc_outside.specs.declared.sure_sink.SureSink.{SureSink}

-- its calls
abbrev pub told : SureSink → List SinkCall
told sink = sink.log

-- it tells, and has never failed
abbrev pub sink_state : SureSink → State (List SinkCall)
sink_state sink = record { told = Some (told sink); faults = 0 }
