use Rattle.engagement.proofs.UriLemmas.{reads_back}
use Rattle.engagement.proofs.laws.uri_is_read_back.Goals as goal

pub returns : goal.returns
returns c = reads_back
