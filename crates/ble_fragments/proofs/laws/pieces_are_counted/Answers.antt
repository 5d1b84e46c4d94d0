use Rattle.ble_fragments.proofs.CutLemmas.{counts}
use Rattle.ble_fragments.proofs.laws.pieces_are_counted.Goals as goal

pub returns : goal.returns
returns c = counts
