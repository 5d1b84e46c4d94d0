use Rattle.issuing.proofs.MadeCopies.{made}
use Rattle.issuing.proofs.laws.object_of_a_copy_is_made_from_its_items.Goals as goal

pub returns : goal.returns
returns c = made
