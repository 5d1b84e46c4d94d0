use Rattle.cose_msgs.proofs.TranscriptLaws.{transcript-parts}
use Rattle.cose_msgs.proofs.laws.transcript_determines_parts.Goals as goal

pub returns : goal.returns
returns c = transcript-parts
