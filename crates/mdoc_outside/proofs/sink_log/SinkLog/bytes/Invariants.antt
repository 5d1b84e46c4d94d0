-- What is joined, and the puts that are left, are all puts.
use Rattle.std.proofs.Common.{◌≡◌, ◌++◌, drop}
use Rattle.mdoc_outside.specs.Sink.{bytes_put}
use Rattle.mdoc_outside.proofs.sink_log.SinkLog.bytes.Given as goal

abbrev pub invariant-loop-call : goal.invariant-loop-call
invariant-loop-call l = l.joined.items ++ bytes_put (drop l.call-index l.call-items) ≡ bytes_put l.call-items
