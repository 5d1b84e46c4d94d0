use Rattle.mdoc_outside.proofs.LineSteps.{lines_first}
use Rattle.mdoc_outside.proofs.lines.first_line.Goals as goal

pub returns-in-Some-clause-first : goal.returns-in-Some-clause-first
returns-in-Some-clause-first c = rw c.without_return.ensures (lines_first c.args.text.now c.in-Some.line.now c.in-Some.rest.now c.in-Some.ensures.parts)
