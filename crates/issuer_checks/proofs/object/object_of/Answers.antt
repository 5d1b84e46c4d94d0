use Rattle.key_device.proofs.PlanLemmas.{then_more}
use Rattle.key_device.specs.PlanSteps.{unless_fault}
use Rattle.issuer_checks.specs.Checks.{object_where}
use Rattle.issuer_checks.specs.Views.{signer_seen}
use Rattle.issuer_checks.proofs.ChecksInOrder.{answered}
use Rattle.issuer_checks.proofs.object.object_of.Goals as goal

pub returns-in-Ok-clause-asked : goal.returns-in-Ok-clause-asked
returns-in-Ok-clause-asked g c =
    then_more (unless_fault (object_where c.args.trust.now.moment c.args.doc_type.now (signer_seen c.args.signer.now)))
    (rw c.in-Ok-true.field-0-test at c.in-Ok-true.ensures.asked) (answered _ c.in-Ok.ensures.checks)

pub returns-in-Err-object_in-clause-asked : goal.returns-in-Err-object_in-clause-asked
returns-in-Err-object_in-clause-asked g c =
    then_more (unless_fault (object_where c.args.trust.now.moment c.args.doc_type.now (signer_seen c.args.signer.now)))
    (rw c.in-Ok-true.field-0-test at c.in-Ok-true.ensures.asked) (answered _ c.in-Err-object_in.ensures.checks)
