use Rattle.doc_store.proofs.AgreeLemmas.{same_places}
use Rattle.doc_store.proofs.laws.same_places.Goals as goal

pub returns : goal.returns
returns c = same_places
