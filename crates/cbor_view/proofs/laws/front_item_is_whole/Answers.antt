use Rattle.cbor_view.proofs.PartialLaws.{read-trailing}
use Rattle.cbor_view.proofs.laws.front_item_is_whole.Goals as goal

pub returns : goal.returns
returns c = read-trailing
