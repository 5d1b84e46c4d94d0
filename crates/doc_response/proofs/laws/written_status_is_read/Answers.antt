use Rattle.doc_response.proofs.StatusWritten.{status-read}
use Rattle.doc_response.proofs.laws.written_status_is_read.Goals as goal

pub returns : goal.returns
returns c = status-read
