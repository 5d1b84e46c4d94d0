use Rattle.wallet_model.proofs.ReleasedItems.{is_released_only}
use Rattle.wallet_model.proofs.laws.released_only.Goals as goal

pub returns : goal.returns
returns c = is_released_only
