use Rattle.ble_fragments.proofs.OneMore.{continues}
use Rattle.ble_fragments.proofs.laws.whole_continues.Goals as goal

pub returns : goal.returns
returns c = continues
