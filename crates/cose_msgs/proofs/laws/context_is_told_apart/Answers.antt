use Rattle.cose_msgs.proofs.StructureLaws.{told-apart}
use Rattle.cose_msgs.proofs.laws.context_is_told_apart.Goals as goal

pub returns : goal.returns
returns c = told-apart
