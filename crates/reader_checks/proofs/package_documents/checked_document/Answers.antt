use Rattle.std.proofs.Common.{length, None, Some, Ok, Err, refl}
use Rattle.std.specs.Prelude.{replicate}
use Rattle.doc_store.specs.Document.{document_of}
use Rattle.key_device.proofs.PlanStepLemmas.{mapped_came, mapped_cut}
use Rattle.verdict_model.specs.Checked.{DocFails, ItemFails, checked_document, package_verdict, verdict_with}
use Rattle.reader_checks.proofs.DocumentLemmas.{found}
use Rattle.reader_checks.proofs.package_documents.checked_document.Goals as goal

pub returns-in-Ok-clause-asked : goal.returns-in-Ok-clause-asked
unfolding checked_document
returns-in-Ok-clause-asked g c =
    found (document_of c.args.document.now) (Ok (replicate (length (document_of c.args.document.now).copies) tt)) (verdict_with (document_of c.args.document.now) None None) c.verdict_with.result
    c.in-Ok.ensures.asked refl c.verdict_with.ensures.came c.verdict_with.ensures.memory

pub returns-in-Err-DocFails-clause-asked : goal.returns-in-Err-DocFails-clause-asked
unfolding checked_document
returns-in-Err-DocFails-clause-asked g c =
    found (document_of c.args.document.now) (Err (DocFails c.in-Err-DocFails.check)) (verdict_with (document_of c.args.document.now) (Some c.in-Err-DocFails.check) None) c.verdict_with-in-Err-DocFails.result
    (rw c.in-Err-DocFails.field-0-is at c.in-Err-DocFails.ensures.asked) refl c.verdict_with-in-Err-DocFails.ensures.came c.verdict_with-in-Err-DocFails.ensures.memory

pub returns-in-Err-ItemFails-clause-asked : goal.returns-in-Err-ItemFails-clause-asked
unfolding checked_document
returns-in-Err-ItemFails-clause-asked g c =
    found (document_of c.args.document.now) (Err (ItemFails c.in-Err-ItemFails.element c.in-Err-ItemFails.check))
    (verdict_with (document_of c.args.document.now) None (Some (c.in-Err-ItemFails.element, c.in-Err-ItemFails.check))) c.verdict_with-in-Err-ItemFails.result
    (rw c.in-Err-ItemFails.field-0-is at c.in-Err-ItemFails.ensures.asked) refl c.verdict_with-in-Err-ItemFails.ensures.came c.verdict_with-in-Err-ItemFails.ensures.memory

pub returns-in-Err-Device-clause-asked : goal.returns-in-Err-Device-clause-asked
unfolding checked_document
returns-in-Err-Device-clause-asked g c =
    mapped_came (package_verdict (document_of c.args.document.now)) (rw c.in-Err-Device.field-0-is at c.in-Err-Device.ensures.asked)

pub returns-in-Err-Memory-clause-asked : goal.returns-in-Err-Memory-clause-asked
unfolding checked_document
returns-in-Err-Memory-clause-asked g c =
    mapped_cut (package_verdict (document_of c.args.document.now)) (rw c.in-Err-Memory.field-0-is at c.in-Err-Memory.ensures.asked)
