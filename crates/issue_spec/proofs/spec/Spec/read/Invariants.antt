use Rattle.std.proofs.Common.{◌≡◌, length, max}
use Rattle.std.specs.Str.Lines.{lines}
use Rattle.mdoc_outside.specs.FileLines.{lines_left}
use Rattle.mdoc_outside.specs.Lines.{file_lines}
use Rattle.issue_spec.specs.SpecFile.{has_new_signer, read_on, spec_of}
use Rattle.issue_spec.specs.SpecReading.{so_far}
use Rattle.issue_spec.proofs.spec.Spec.read.Given as goal

-- what was read so far and the lines that are left give what all lines do
abbrev pub invariant-loop-line : goal.invariant-loop-line
invariant-loop-line l =
    (goal.iterator-loop-line).can_next l.line-iterator ×
    (goal.iterator-loop-line).is_finite l.line-iterator ×
    (read_on (has_new_signer (file_lines l.text)) (max 1 (length (lines l.text))) (so_far l.reading) (lines_left l.line-iterator) ≡ spec_of l.text)
