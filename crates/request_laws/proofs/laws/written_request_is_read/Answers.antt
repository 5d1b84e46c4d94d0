use Rattle.request_laws.proofs.RequestsRead.{request-read}
use Rattle.request_laws.proofs.laws.written_request_is_read.Goals as goal

pub returns : goal.returns
returns c = request-read
