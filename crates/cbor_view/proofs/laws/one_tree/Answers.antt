use Rattle.cbor_view.proofs.WholeReading.{one-tree}
use Rattle.cbor_view.proofs.laws.one_tree.Goals as goal

pub returns : goal.returns
returns c = one-tree
