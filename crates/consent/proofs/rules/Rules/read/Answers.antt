use Rattle.std.proofs.Common.{sym, ◌∙◌}
use Rattle.mdoc_outside.specs.FileLine.{line}
use Rattle.mdoc_outside.specs.FileLines.{lines_left}
use Rattle.mdoc_outside.proofs.EachStep.{each-next}
use Rattle.consent.specs.Rule.{rule_of}
use Rattle.consent.specs.Grammar.{line_of}
use Rattle.consent.proofs.rules.Rules.read.Goals as goal

pub loop-line-preserved : goal.loop-line-preserved
loop-line-preserved c =
    let so_far = rw c.in-Some.ensures.steps at c.loop-line.invariant.2 in
    let next = each-next (line_of rule_of) c.loop-line.rules.items (line c.in-Some.line) (lines_left c.next.new.self) c.in_ok-read_rule.field-0 c.in_ok-read_rule.ensures in
    (tt, tt, rw c.in_ok-push.ensures.items (sym next ∙ so_far))
