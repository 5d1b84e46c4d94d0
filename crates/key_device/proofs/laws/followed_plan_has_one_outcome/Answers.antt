use Rattle.key_device.proofs.PartsLemmas.{has_one_outcome, never_both_ends}
use Rattle.key_device.proofs.laws.followed_plan_has_one_outcome.Goals as goal

pub returns-clause-outcome : goal.returns-clause-outcome
returns-clause-outcome g c = has_one_outcome _

pub returns-clause-ends : goal.returns-clause-ends
returns-clause-ends g c = never_both_ends _
