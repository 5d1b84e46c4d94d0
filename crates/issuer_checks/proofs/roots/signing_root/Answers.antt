use Rattle.key_device.proofs.PlanStepLemmas.{mapped_came}
use Rattle.verdict_model.specs.Steps.{or_unanswered}
use Rattle.issuer_checks.proofs.roots.signing_root.Goals as goal

pub returns-in-Ok-clause-asked : goal.returns-in-Ok-clause-asked
returns-in-Ok-clause-asked g c = mapped_came or_unanswered c.in-Ok.ensures.asked

pub returns-in-Err-Failed-clause-asked : goal.returns-in-Err-Failed-clause-asked
returns-in-Err-Failed-clause-asked g c = mapped_came or_unanswered (rw c.in-Err-Failed.field-0-is at c.in-Err-Failed.ensures.asked)
