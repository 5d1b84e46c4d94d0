use Rattle.key_device.proofs.PlanLemmas.{then_more}
use Rattle.mso_digests.specs.MsoView.{object_seen}
use Rattle.issuer_checks.specs.Views.{signer_seen}
use Rattle.issuer_checks.proofs.ChecksInOrder.{stopped}
use Rattle.issuer_checks.proofs.issuer_statement.issued_object.Goals as goal

pub returns-in-Ok-clause-asked : goal.returns-in-Ok-clause-asked
returns-in-Ok-clause-asked g c = then_more _ c.in-Ok.ensures.asked c.object_of.ensures.asked

pub returns-in-Err-clause-asked : goal.returns-in-Err-clause-asked
returns-in-Err-clause-asked g c = stopped signer_seen object_seen _ c.in-Err.stop c.in-Err.ensures.asked
