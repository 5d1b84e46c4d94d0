use Rattle.cbor_view.proofs.PartialLaws.{read-whole}
use Rattle.cbor_view.proofs.laws.item_is_whole.Goals as goal

pub returns : goal.returns
returns c = read-whole
