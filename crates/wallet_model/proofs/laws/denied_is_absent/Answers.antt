use Rattle.wallet_model.proofs.RoundsAlike.{agree_implies, is_denied_absent}
use Rattle.wallet_model.proofs.laws.denied_is_absent.Goals as goal

pub returns-clause-alike : goal.returns-clause-alike
returns-clause-alike c = is_denied_absent

pub returns-clause-weaker : goal.returns-clause-weaker
returns-clause-weaker c = agree_implies
