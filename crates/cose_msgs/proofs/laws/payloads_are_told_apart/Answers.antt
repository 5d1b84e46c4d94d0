use Rattle.cose_msgs.proofs.TranscriptLaws.{payloads-differ}
use Rattle.cose_msgs.proofs.laws.payloads_are_told_apart.Goals as goal

pub returns : goal.returns
returns c = payloads-differ
