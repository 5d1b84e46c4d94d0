use Rattle.std.proofs.Common.{option_map}
use Rattle.doc_store.specs.StoredCopy.{copy_of}
use Rattle.mdoc_draft.proofs.AnsweringLemmas.{with_answers-start}
use Rattle.mdoc_draft.proofs.answering.answer_document.Goals as goal

pub loop-draft-init : goal.loop-draft-init
loop-draft-init c =
    with_answers-start c.args.rules.now (option_map copy_of c.args.copy) c.args.asked.now _ _ c.as_slice-wishes.ensures
    (rw c.text_of-doc_type.ensures at c.new-document.ensures)
