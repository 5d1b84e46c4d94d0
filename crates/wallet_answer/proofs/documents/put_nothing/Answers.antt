use Rattle.wallet_answer.specs.Texts.{name_seen}
use Rattle.wallet_answer.proofs.ListLemmas.{more_types}
use Rattle.wallet_answer.proofs.documents.put_nothing.Goals as goal

pub loop-doc_type-preserved : goal.loop-doc_type-preserved
loop-doc_type-preserved c =
    more_types name_seen c.args.types.now c.loop-doc_type.doc_type-index _ c.args.draft.now c.loop-doc_type.draft c.nothing.new.self
    c.loop-doc_type.invariant c.loop-doc_type-test.true c.in_ok-nothing.ensures.ok
