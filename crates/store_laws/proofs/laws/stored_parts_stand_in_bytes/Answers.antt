use Rattle.store_laws.proofs.Stored.{stored-parts}
use Rattle.store_laws.proofs.laws.stored_parts_stand_in_bytes.Goals as goal

pub returns : goal.returns
returns c = stored-parts
