use Rattle.std.proofs.Common.{◌≡◌, length, max}
use Rattle.std.specs.Str.Lines.{lines}
use Rattle.mdoc_outside.specs.FileLines.{lines_left}
use Rattle.mdoc_frame.specs.Progress.{progress}
use Rattle.mdoc_frame.specs.Wishes.{read_on, wishes_of}
use Rattle.mdoc_frame.proofs.wishes.read_wishes.Given as goal

-- what was read so far and the lines that are left give what all lines do
abbrev pub invariant-loop-line : goal.invariant-loop-line
invariant-loop-line l =
    (goal.iterator-loop-line).can_next l.line-iterator ×
    (goal.iterator-loop-line).is_finite l.line-iterator ×
    (read_on (max 1 (length (lines l.text))) (progress l.reading) (lines_left l.line-iterator) ≡ wishes_of l.text)
