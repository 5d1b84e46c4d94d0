-- Whatever printing the lines that are left does, printing all lines does.
use Rattle.std.proofs.Common.{List, drop}
use Rattle.mdoc_outside.specs.State.{State}
use Rattle.mdoc_outside.specs.declared.sink_call.SinkCall.{SinkCall}
use Rattle.mdoc_frame.specs.Steps.{Prints}
use Rattle.mdoc_frame.specs.declared.status.Status.{Status}
use Rattle.mdoc_frame.proofs.lines.print_lines.Given as goal

abbrev pub invariant-loop-line : goal.invariant-loop-line
invariant-loop-line g l =
    (now : State (List SinkCall)) (end : Status) →
    Prints (drop l.line-index l.lines) l.status (g.O.Sink.state l.out) now end → Prints l.lines l.status (g.O.Sink.state l.fn.out) now end
