use Rattle.std.proofs.Common.{◌≡◌, None, map, take}
use Rattle.doc_store.specs.StoreView.{documents_in}
use Rattle.mdoc_draft.specs.Core.{answered}
use Rattle.mdoc_draft.proofs.answering.answer_all.Given as goal

-- the answers so far
abbrev pub invariant-loop-document : goal.invariant-loop-document
invariant-loop-document l = l.all.items ≡ map (answered l.rules None (documents_in l.store)) (take l.document-index l.asked)
