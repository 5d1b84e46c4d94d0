use Rattle.std.proofs.Common.{◌≡◌, ◌++◌, map}
use Rattle.doc_request.specs.Views.{document_seen, documents_left, documents_of}
use Rattle.wallet_answer.proofs.answering.documents_in.Given as goal

-- the documents so far, and those that are left
abbrev pub invariant-loop-document : goal.invariant-loop-document
invariant-loop-document l =
    (goal.iterator-loop-document).can_next l.document-iterator ×
    (goal.iterator-loop-document).is_finite l.document-iterator ×
    (map document_seen l.documents.items ++ documents_left l.document-iterator ≡ documents_of l.request)
