use Rattle.request_laws.proofs.Opened.{opened}
use Rattle.request_laws.proofs.laws.every_document_is_read.Goals as goal

pub returns : goal.returns
returns c = opened
