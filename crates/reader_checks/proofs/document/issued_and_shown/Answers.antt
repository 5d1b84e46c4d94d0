use Rattle.doc_response.specs.ResponseDocs.{document_seen}
use Rattle.key_device.proofs.PlanLemmas.{then_more, ended}
use Rattle.key_device.specs.PlanSteps.{unless_fault}
use Rattle.verdict_model.specs.Documents.{and_shown}
use Rattle.reader_checks.specs.Views.{setting_seen}
use Rattle.issuer_checks.proofs.ChecksInOrder.{stopped}
use Rattle.issuer_checks.specs.Views.{issued_seen}
use Rattle.reader_checks.proofs.document.issued_and_shown.Goals as goal

pub returns-in-Ok-shown-clause-asked : goal.returns-in-Ok-shown-clause-asked
returns-in-Ok-shown-clause-asked g c =
    then_more (unless_fault (and_shown (setting_seen c.args.setting.now) (document_seen c.args.document.now)))
    (rw (c.doc_type.ensures, c.issuer_auth.ensures) at c.in-Ok.ensures.asked) (then_more _ c.in-Ok-shown.ensures.asked (ended _))

pub returns-in-Err-shown-clause-asked : goal.returns-in-Err-shown-clause-asked
returns-in-Err-shown-clause-asked g c =
    then_more (unless_fault (and_shown (setting_seen c.args.setting.now) (document_seen c.args.document.now)))
    (rw (c.doc_type.ensures, c.issuer_auth.ensures) at c.in-Ok.ensures.asked)
    (stopped (λ (u : Unit {0}). u) issued_seen _ c.in-Err-shown.stop c.in-Err-shown.ensures.asked)
