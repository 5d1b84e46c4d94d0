use Rattle.key_device.proofs.PlanStepLemmas.{mapped_came, mapped_cut}
use Rattle.issuing.specs.Signers.{as_issue, certified}
use Rattle.issuing.proofs.signers.certified.Goals as goal

pub returns-in-Ok-clause-asked : goal.returns-in-Ok-clause-asked
unfolding certified
returns-in-Ok-clause-asked g c = mapped_came as_issue c.in-Ok.ensures.asked

pub returns-in-Err-Device-clause-asked : goal.returns-in-Err-Device-clause-asked
unfolding certified
returns-in-Err-Device-clause-asked g c = mapped_came as_issue (rw c.in-Err-Device.field-0-is at c.in-Err-Device.ensures.asked)

pub returns-in-Err-Memory-clause-asked : goal.returns-in-Err-Memory-clause-asked
unfolding certified
returns-in-Err-Memory-clause-asked g c = mapped_cut as_issue (rw c.in-Err-Memory.field-0-is at c.in-Err-Memory.ensures.asked)
