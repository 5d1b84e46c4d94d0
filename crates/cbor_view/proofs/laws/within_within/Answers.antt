use Rattle.cbor_view.proofs.Places.{within-within}
use Rattle.cbor_view.proofs.laws.within_within.Goals as goal

pub returns : goal.returns
returns c = within-within
