use Rattle.wallet_laws.proofs.Answers.{is_released_exactly}
use Rattle.wallet_laws.proofs.laws.released_exactly.Goals as goal

pub returns : goal.returns
returns c = is_released_exactly
