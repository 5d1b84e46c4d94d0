use Rattle.std.proofs.Common.{◌≡◌, map, take}
use Rattle.wallet_answer.specs.ChoiceView.{choice_seen}
use Rattle.wallet_answer.specs.Documents.{documents_with, with_documents}
use Rattle.wallet_answer.proofs.documents.put_documents.Given as goal

-- the documents so far
abbrev pub invariant-loop-place : goal.invariant-loop-place
invariant-loop-place l = l.draft ≡ with_documents (documents_with (map choice_seen (take l.place l.choices)) (take l.place l.auths)) l.fn.draft
