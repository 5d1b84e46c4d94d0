-- The lines that are ignored are none of those that are left.
use Rattle.std.proofs.Common.{◌≡◌, length}
use Rattle.mdoc_outside.specs.FileLines.{lines_left}
use Rattle.mdoc_outside.proofs.file_lines.FileLinesIterator.next.Given as goal

abbrev pub invariant-loop-line : goal.invariant-loop-line
invariant-loop-line l = lines_left l.self ≡ lines_left l.fn.self

abbrev pub decreases-loop-line : goal.decreases-loop-line
decreases-loop-line l = length l.self.rest.now
