use Rattle.cose_msgs.proofs.TranscriptLaws.{reader-parts}
use Rattle.cose_msgs.proofs.laws.reader_payload_determines_parts.Goals as goal

pub returns : goal.returns
returns c = reader-parts
