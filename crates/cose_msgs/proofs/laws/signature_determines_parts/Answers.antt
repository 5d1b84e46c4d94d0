use Rattle.cose_msgs.proofs.StructureLaws.{signed-determined}
use Rattle.cose_msgs.proofs.laws.signature_determines_parts.Goals as goal

pub returns : goal.returns
returns c = signed-determined
