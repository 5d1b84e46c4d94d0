use Rattle.issuer_items.proofs.ItemWritten.{item-written}
use Rattle.issuer_items.proofs.laws.written_item_is_read.Goals as goal

pub returns : goal.returns
returns c = item-written
