use Rattle.cose_msgs.proofs.TranscriptLaws.{transcript-item}
use Rattle.cose_msgs.proofs.laws.transcript_is_one_item.Goals as goal

pub returns : goal.returns
returns c = transcript-item
