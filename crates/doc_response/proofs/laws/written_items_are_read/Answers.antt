use Rattle.doc_response.proofs.ItemsWritten.{items-read}
use Rattle.doc_response.proofs.laws.written_items_are_read.Goals as goal

pub returns : goal.returns
returns c = items-read
