use Rattle.std.proofs.Common.{◌≡◌}
use Rattle.mdoc_outside.specs.FileLines.{lines_left}
use Rattle.mdoc_outside.specs.Lines.{file_lines}
use Rattle.mdoc_outside.specs.ResultSteps.{each}
use Rattle.mdoc_outside.proofs.EachStep.{with_front}
use Rattle.consent.specs.Grammar.{line_of}
use Rattle.consent.specs.Rule.{rule_of}
use Rattle.consent.proofs.rules.Rules.read.Given as goal

-- the rules so far and the lines that are left give what all lines do
abbrev pub invariant-loop-line : goal.invariant-loop-line
invariant-loop-line l =
    (goal.iterator-loop-line).can_next l.line-iterator ×
    (goal.iterator-loop-line).is_finite l.line-iterator ×
    (with_front l.rules.items (each (line_of rule_of) (lines_left l.line-iterator)) ≡ each (line_of rule_of) (file_lines l.text))
