use Rattle.engagement.proofs.UriLemmas.{one_uri}
use Rattle.engagement.proofs.laws.uri_is_of_one_engagement.Goals as goal

pub returns : goal.returns
returns c = one_uri
