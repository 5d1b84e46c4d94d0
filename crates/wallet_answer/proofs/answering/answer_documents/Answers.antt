use Rattle.std.proofs.Common.{Ok, Err, map}
use Rattle.doc_request.specs.Views.{document_seen}
use Rattle.key_device.specs.Recording.{talk}
use Rattle.key_device.specs.declared.device_fault.DeviceFault.TheVariants.{Failed}
use Rattle.wallet_answer.specs.ChoiceView.{choice_seen}
use Rattle.wallet_answer.specs.SetupView.{setup_of}
use Rattle.wallet_answer.specs.Texts.{name_seen, reader_seen}
use Rattle.wallet_model.specs.Released.{selections}
use Rattle.wallet_answer.specs.Documents.{documents_with}
use Rattle.wallet_answer.proofs.Exits.{full_text, selected_came, selected_cut}
use Rattle.wallet_answer.proofs.answering.answer_documents.Goals as goal

pub returns-in-Ok-clause-asked : goal.returns-in-Ok-clause-asked
returns-in-Ok-clause-asked g c =
    let list = selections (setup_of c.args.setup.now) (map document_seen c.args.documents.now) (map reader_seen c.args.readers.now) in
    let chosen = map choice_seen c.in_ok-selected.selected.choices.items in
    selected_came c.args.session.now list c.in_ok-selected.selected.choices.items c.in_ok-selected.ensures.choices (talk c.args.device.now) (talk c.authenticate_all.new.device)
    (Ok (documents_with chosen c.in-Ok.auths.items)) c.full.result
    (rw c.deref.ensures.value at c.in-Ok.ensures.asked)
    (full_text list chosen c.in-Ok.auths.items (map name_seen c.in_ok-selected.selected.nothing.items) c.full.result c.in_ok-selected.ensures.nothing
    (rw c.deref-in-Ok.ensures.value at c.full.ensures.text))
    c.full.ensures.places

pub returns-in-Err-Failed-clause-asked : goal.returns-in-Err-Failed-clause-asked
returns-in-Err-Failed-clause-asked g c =
    selected_came c.args.session.now (selections (setup_of c.args.setup.now) (map document_seen c.args.documents.now) (map reader_seen c.args.readers.now))
    c.in_ok-selected.selected.choices.items c.in_ok-selected.ensures.choices (talk c.args.device.now) (talk c.authenticate_all.new.device)
    (Err Failed) c.refused.result
    (rw (c.in-Err-Failed.field-0-is, c.deref.ensures.value) at c.in-Err-Failed.ensures.asked)
    c.refused.ensures.text c.refused.ensures.places

pub returns-in-Err-Memory-clause-asked : goal.returns-in-Err-Memory-clause-asked
returns-in-Err-Memory-clause-asked g c =
    selected_cut c.args.session.now (selections (setup_of c.args.setup.now) (map document_seen c.args.documents.now) (map reader_seen c.args.readers.now))
    c.in_ok-selected.selected.choices.items c.in_ok-selected.ensures.choices (talk c.args.device.now) (talk c.authenticate_all.new.device)
    (rw (c.in-Err-Memory.field-0-is, c.deref.ensures.value) at c.in-Err-Memory.ensures.asked)
