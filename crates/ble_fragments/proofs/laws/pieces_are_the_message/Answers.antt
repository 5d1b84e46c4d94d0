use Rattle.ble_fragments.proofs.CutLemmas.{pieces_join}
use Rattle.ble_fragments.proofs.laws.pieces_are_the_message.Goals as goal

pub returns : goal.returns
returns c = pieces_join
