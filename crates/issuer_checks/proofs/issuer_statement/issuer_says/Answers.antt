use Rattle.std.proofs.Common.{sym}
use Rattle.key_device.proofs.PlanLemmas.{then_more, ended}
use Rattle.mso_digests.specs.MsoView.{object_seen}
use Rattle.verdict_model.specs.IssuerStatement.{device_key, issued}
use Rattle.verdict_model.specs.declared.doc_check.DocCheck.TheVariants as checks
use Rattle.issuer_checks.specs.Views.{issued_seen}
use Rattle.issuer_checks.proofs.ChecksInOrder.{missing, stopped, there}
use Rattle.issuer_checks.proofs.issuer_statement.issuer_says.Goals as goal

pub returns-in-Err-clause-asked : goal.returns-in-Err-clause-asked
unfolding issued
returns-in-Err-clause-asked g c = stopped object_seen issued_seen _ c.in-Err.stop c.in-Err.ensures.asked

pub returns-in-Some-clause-asked : goal.returns-in-Some-clause-asked
unfolding issued
returns-in-Some-clause-asked g c =
    then_more _ c.in-Ok.ensures.asked (there checks.DeviceKeyForm _ (device_key (object_seen c.in-Ok.object)) c.in-Some.key (sym c.in-Some.ensures) (ended _))

pub returns-in-None-clause-asked : goal.returns-in-None-clause-asked
unfolding issued
returns-in-None-clause-asked g c =
    then_more _ c.in-Ok.ensures.asked (missing checks.DeviceKeyForm _ (device_key (object_seen c.in-Ok.object)) _ (sym c.in-None.ensures))
