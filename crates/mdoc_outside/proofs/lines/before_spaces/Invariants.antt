use Rattle.std.proofs.Common.{◌≡◌, length}
use Rattle.mdoc_outside.specs.Lines.{before_spaces}
use Rattle.mdoc_outside.proofs.lines.before_spaces.Given as goal

abbrev pub invariant-loop-left : goal.invariant-loop-left
invariant-loop-left l = before_spaces l.left ≡ before_spaces l.bytes

abbrev pub decreases-loop-left : goal.decreases-loop-left
decreases-loop-left l = length l.left
