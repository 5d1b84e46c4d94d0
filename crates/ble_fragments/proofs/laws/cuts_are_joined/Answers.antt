use Rattle.ble_fragments.proofs.CutLemmas.{joins_cuts}
use Rattle.ble_fragments.proofs.laws.cuts_are_joined.Goals as goal

pub returns : goal.returns
returns c = joins_cuts
