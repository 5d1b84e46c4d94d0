use Rattle.message_laws.proofs.Items.{item-lies}
use Rattle.message_laws.proofs.laws.item_stands_in_bytes.Goals as goal

pub returns : goal.returns
returns c = item-lies
