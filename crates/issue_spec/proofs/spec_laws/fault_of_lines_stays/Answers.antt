use Rattle.issue_spec.proofs.SpecPrefix.{stays}
use Rattle.issue_spec.proofs.spec_laws.fault_of_lines_stays.Goals as goal

pub returns : goal.returns
returns c = stays
