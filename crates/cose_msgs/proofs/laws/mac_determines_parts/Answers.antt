use Rattle.cose_msgs.proofs.StructureLaws.{mac-determined}
use Rattle.cose_msgs.proofs.laws.mac_determines_parts.Goals as goal

pub returns : goal.returns
returns c = mac-determined
