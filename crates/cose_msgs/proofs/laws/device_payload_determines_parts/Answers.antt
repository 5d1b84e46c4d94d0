use Rattle.cose_msgs.proofs.TranscriptLaws.{device-parts}
use Rattle.cose_msgs.proofs.laws.device_payload_determines_parts.Goals as goal

pub returns : goal.returns
returns c = device-parts
