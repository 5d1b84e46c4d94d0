use Rattle.doc_store.proofs.LeastFault.{first_of_file}
use Rattle.doc_store.proofs.laws.first_of_all.Goals as goal

pub returns : goal.returns
returns c = first_of_file
