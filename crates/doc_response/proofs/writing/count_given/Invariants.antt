use Rattle.std.proofs.Common.{◌≡◌, ◌≤◌, length, map, take}
use Rattle.doc_response.specs.DraftView.{document_seen}
use Rattle.doc_response.specs.Written.{given}
use Rattle.doc_response.proofs.writing.count_given.Given as goal

-- the count so far, and no more than there were
abbrev pub invariant-loop-document : goal.invariant-loop-document
invariant-loop-document l = (l.count ≡ length (given (map document_seen (take l.document-index l.documents)))) × (l.count ≤ l.document-index)
