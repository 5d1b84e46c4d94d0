use Rattle.store_write.proofs.ReadAgain.{read-again}
use Rattle.store_write.proofs.laws.read_store_is_storable.Goals as goal

pub returns : goal.returns
returns c = read-again
