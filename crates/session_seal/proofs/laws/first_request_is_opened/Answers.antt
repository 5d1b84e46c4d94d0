use Rattle.session_seal.proofs.BothEnds.{first-opened}
use Rattle.session_seal.proofs.laws.first_request_is_opened.Goals as goal

pub returns : goal.returns
returns c = first-opened
