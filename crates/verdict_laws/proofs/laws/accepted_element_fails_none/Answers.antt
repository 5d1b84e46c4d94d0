use Rattle.verdict_laws.proofs.Elements.{are_accepted_failing_none}
use Rattle.verdict_laws.proofs.laws.accepted_element_fails_none.Goals as goal

pub returns : goal.returns
returns c = are_accepted_failing_none
