use Rattle.verdict_laws.proofs.Elements.{are_refused_by_first}
use Rattle.verdict_laws.proofs.laws.refused_element_fails_first.Goals as goal

pub returns : goal.returns
returns c = are_refused_by_first
