use Rattle.std.proofs.Common.{◌≡◌}
use Rattle.mdoc_outside.specs.FileLines.{lines_left}
use Rattle.mdoc_outside.specs.Lines.{file_lines}
use Rattle.issue_spec.specs.SpecFile.{has_new_signer}
use Rattle.issue_spec.proofs.spec_lines.has_new_signer.Given as goal

-- the lines that are left decide
abbrev pub invariant-loop-line : goal.invariant-loop-line
invariant-loop-line l =
    (goal.iterator-loop-line).can_next l.line-iterator ×
    (goal.iterator-loop-line).is_finite l.line-iterator ×
    (has_new_signer (lines_left l.line-iterator) ≡ has_new_signer (file_lines l.text))
