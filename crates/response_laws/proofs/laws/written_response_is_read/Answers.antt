use Rattle.response_laws.proofs.ResponseRead.{response-back}
use Rattle.response_laws.proofs.laws.written_response_is_read.Goals as goal

pub returns : goal.returns
returns c = response-back
