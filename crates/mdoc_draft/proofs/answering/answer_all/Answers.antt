use Rattle.std.proofs.Common.{None, ap, ◌∙◌}
use Rattle.doc_store.specs.StoreView.{documents_in}
use Rattle.mdoc_draft.specs.Core.{answered}
use Rattle.mdoc_draft.proofs.AnsweringLemmas.{one_answer_more}
use Rattle.mdoc_draft.proofs.answering.answer_all.Goals as goal

pub loop-document-preserved : goal.loop-document-preserved
loop-document-preserved c =
    let answer = answered c.args.rules.now None (documents_in c.args.store.now) in
    one_answer_more answer _ _ _ c.args.asked.now _ _ c.loop-document-test.true
    c.loop-document.invariant (c.in_ok-answer_of.ensures ∙ ap answer c.document-item.is) c.in_ok-push.ensures.items
