use Rattle.key_device.proofs.PlanEquations.{folded_snoc}
use Rattle.key_device.proofs.laws.steps_go_on_at_the_end.Goals as goal

pub returns : goal.returns
returns g c = folded_snoc
