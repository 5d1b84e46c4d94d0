use Rattle.wallet_laws.proofs.RoundsExact.{are_rounds_exact}
use Rattle.wallet_laws.proofs.laws.rounds_release_exactly.Goals as goal

pub returns : goal.returns
returns c = are_rounds_exact
