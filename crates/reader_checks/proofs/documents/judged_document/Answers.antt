use Rattle.doc_response.specs.ResponseDocs.{document_seen}
use Rattle.reader_checks.specs.Views.{setting_seen}
use Rattle.key_device.proofs.PlanStepLemmas.{mapped_came}
use Rattle.verdict_model.specs.Documents.{doc_verdict, judged_document}
use Rattle.reader_checks.proofs.Causes.{cause_memory, cause_ok}
use Rattle.reader_checks.proofs.documents.judged_document.Goals as goal

pub returns-in-Ok-accepted_document-clause-asked : goal.returns-in-Ok-accepted_document-clause-asked
unfolding judged_document
returns-in-Ok-accepted_document-clause-asked g c =
    rw c.in-Ok-accepted_document.ensures (mapped_came (doc_verdict (setting_seen c.args.setting.now) (document_seen c.args.document.now)) c.in-Ok.ensures.asked)

pub returns-in-Ok-refused_document-clause-asked : goal.returns-in-Ok-refused_document-clause-asked
unfolding judged_document
returns-in-Ok-refused_document-clause-asked g c =
    rw c.in-Ok-refused_document.ensures
    (mapped_came (doc_verdict (setting_seen c.args.setting.now) (document_seen c.args.document.now)) (rw c.in-Err-Refused.field-0-is at c.in-Err-Refused.ensures.asked))

pub returns-in-Ok-refused_document-clause-cause : goal.returns-in-Ok-refused_document-clause-cause
returns-in-Ok-refused_document-clause-cause g c = cause_ok _ (rw c.in-Err-Refused.field-0-is at c.in-Err-Refused.ensures.counts)

pub returns-in-Err-refused_document-clause-cause : goal.returns-in-Err-refused_document-clause-cause
returns-in-Err-refused_document-clause-cause g c = cause_memory (rw c.in-Err-Refused.field-0-is at c.in-Err-Refused.ensures.counts)

pub returns-in-Err-Device-clause-asked : goal.returns-in-Err-Device-clause-asked
unfolding judged_document
returns-in-Err-Device-clause-asked g c =
    mapped_came (doc_verdict (setting_seen c.args.setting.now) (document_seen c.args.document.now)) (rw c.in-Err-Device.field-0-is at c.in-Err-Device.ensures.asked)
