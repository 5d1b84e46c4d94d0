use Rattle.store_write.proofs.Nested.{held-nested, placed-nested, stored-nested}
use Rattle.store_write.proofs.laws.stored_parts_are_nested.Goals as goal

pub returns-clause-stored : goal.returns-clause-stored
returns-clause-stored c = stored-nested

pub returns-clause-held : goal.returns-clause-held
returns-clause-held c = held-nested

pub returns-clause-placed : goal.returns-clause-placed
returns-clause-placed c = placed-nested
