use Rattle.engagement.proofs.WrittenReads.{written-read}
use Rattle.engagement.proofs.laws.written_engagement_is_read.Goals as goal

pub returns : goal.returns
returns c = written-read
