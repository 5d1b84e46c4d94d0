use Rattle.wallet_laws.proofs.Least.{agreement_is_least}
use Rattle.wallet_laws.proofs.laws.agreement_is_least.Goals as goal

pub returns : goal.returns
returns c = agreement_is_least
