use Rattle.wallet_model.proofs.RoundsAlike.{are_stores_alike}
use Rattle.wallet_model.proofs.laws.two_stores.Goals as goal

pub returns : goal.returns
returns c = are_stores_alike
