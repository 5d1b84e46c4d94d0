use Rattle.std.proofs.Common.{◌≡◌, ◌∙◌, List, Some, None, Ok, Err, ap, length, map, rules, subst, sym, true, w64, to_z, of_z, to_z-of_z}
use Rattle.std.specs.List.{AllByRecursion}
use Rattle.doc_request.specs.Asked.{Document}
use Rattle.doc_request.specs.Draft.{are_distinct}
use Rattle.doc_request.specs.Views.{document_seen, documents_of}
use Rattle.key_device.specs.Recording.{talk}
use Rattle.key_device.specs.declared.device_fault.DeviceFault.TheVariants.{Failed}
use Rattle.wallet_answer.specs.SetupView.{setup_of}
use Rattle.wallet_answer.specs.Texts.{reader_seen}
use Rattle.wallet_model.specs.Answer.{without_items}
use Rattle.wallet_answer.specs.AnswerView.{answer_of}
use Rattle.wallet_answer.proofs.Counts.{as_many}
use Rattle.wallet_answer.proofs.Exits.{asked_by, by_no_readers, by_readers, done}
use Rattle.wallet_answer.proofs.answering.answer_request.Goals as goal
use mir.Val.{SFits}

pub answer_documents-requires-clause-each : goal.answer_documents-requires-clause-each
answer_documents-requires-clause-each g c =
    ap length c.deref-in-Ok-2.ensures.value
    ∙ as_many _ c.deref.result.now reader_seen c.in-Ok.readers.items (talk c.args.device.now) (talk c.known_readers.new.device) c.in-Ok.ensures.asked
    ∙ ap length (c.deref.ensures.value ∙ sym c.deref-in-Ok.ensures.value)

pub answer_documents-requires-clause-distinct : goal.answer_documents-requires-clause-distinct
answer_documents-requires-clause-distinct g c =
    subst (λ (list : List Document). AllByRecursion (λ (document : Document). are_distinct document.wishes ≡ true) list)
    (sym (ap (map document_seen) c.deref-in-Ok.ensures.value ∙ c.in_ok-documents.ensures)) c.requires

pub returns-in-Ok-clause-asked : goal.returns-in-Ok-clause-asked
returns-in-Ok-clause-asked g c =
    let fits : SFits w64 c.args.setup.now.moment = search rules in
    by_readers (setup_of c.args.setup.now) c.args.session.now c.deref.result.now (documents_of c.args.request.now) (ap (map document_seen) c.deref.ensures.value ∙ c.in_ok-documents.ensures)
    (talk c.args.device.now) (talk c.known_readers.new.device) (talk c.answer_documents.new.device) (Ok (map reader_seen c.in-Ok.readers.items)) (answer_of c.answer_documents.result)
    (asked_by (setup_of c.args.setup.now) c.args.session.now c.deref.result.now (to_z w64 (of_z w64 c.args.setup.now.moment)) c.transcript.result.now (talk c.args.device.now) (talk c.known_readers.new.device)
    (Some (Ok (map reader_seen c.in-Ok.readers.items))) c.in-Ok.ensures.asked c.transcript.ensures (to_z-of_z fits))
    (rw (c.deref-in-Ok-2.ensures.value, c.deref-in-Ok.ensures.value, c.in_ok-documents.ensures) at c.answer_documents.ensures.asked)

pub returns-in-Err-Failed-clause-asked : goal.returns-in-Err-Failed-clause-asked
returns-in-Err-Failed-clause-asked g c =
    let fits : SFits w64 c.args.setup.now.moment = search rules in
    by_readers (setup_of c.args.setup.now) c.args.session.now c.deref.result.now (documents_of c.args.request.now) (ap (map document_seen) c.deref.ensures.value ∙ c.in_ok-documents.ensures)
    (talk c.args.device.now) (talk c.known_readers.new.device) (talk c.known_readers.new.device) (Err Failed) (answer_of c.without_items.result)
    (asked_by (setup_of c.args.setup.now) c.args.session.now c.deref.result.now (to_z w64 (of_z w64 c.args.setup.now.moment)) c.transcript.result.now (talk c.args.device.now) (talk c.known_readers.new.device)
    (Some (Err Failed)) (rw c.in-Err-Failed.field-0-is at c.in-Err-Failed.ensures.asked) c.transcript.ensures (to_z-of_z fits))
    (done c.without_items.result (without_items 10) (talk c.known_readers.new.device) c.without_items.ensures)

pub returns-clause-asked : goal.returns-clause-asked
returns-clause-asked g c =
    let fits : SFits w64 c.args.setup.now.moment = search rules in
    by_no_readers (setup_of c.args.setup.now) c.args.session.now c.deref.result.now (documents_of c.args.request.now) (ap (map document_seen) c.deref.ensures.value ∙ c.in_ok-documents.ensures)
    (talk c.args.device.now) (talk c.known_readers.new.device)
    (asked_by (setup_of c.args.setup.now) c.args.session.now c.deref.result.now (to_z w64 (of_z w64 c.args.setup.now.moment)) c.transcript.result.now (talk c.args.device.now) (talk c.known_readers.new.device)
    None (rw c.in-Err-Memory.field-0-is at c.in-Err-Memory.ensures.asked) c.transcript.ensures (to_z-of_z fits))
