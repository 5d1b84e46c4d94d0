use Rattle.std.proofs.Common.{subst, sym}
use Rattle.wallet_answer.specs.ChoiceView.{choice_seen}
use Rattle.wallet_answer.specs.declared.released_document.ReleasedDocument.{ReleasedDocument}
use Rattle.wallet_answer.specs.Documents.{IsSound}
use Rattle.wallet_answer.proofs.DraftLemmas.{at_place}
use Rattle.wallet_answer.proofs.ListLemmas.{more_documents}
use Rattle.wallet_answer.proofs.documents.put_documents.Goals as goal

pub loop-place-preserved : goal.loop-place-preserved
loop-place-preserved c =
    more_documents choice_seen c.args.choices.now c.args.auths.now c.loop-place.place c.index-choices-place.result _ c.args.draft.now c.loop-place.draft c.put_document.new.draft
    c.loop-place.invariant c.loop-place-test.true c.requires.each c.index-choices-place.is c.in_ok-put_document.ensures

pub put_document-requires : goal.put_document-requires
put_document-requires c =
    subst (λ (one : ReleasedDocument). IsSound (choice_seen one)) (sym c.index-choices-place.is)
    (at_place IsSound choice_seen c.args.choices.now c.loop-place.place c.index-choices-place.result c.requires.sound c.loop-place-test.true)
