use Rattle.doc_store.proofs.AgreeLemmas.{same_presence}
use Rattle.doc_store.proofs.laws.same_presence.Goals as goal

pub returns : goal.returns
returns c = same_presence
