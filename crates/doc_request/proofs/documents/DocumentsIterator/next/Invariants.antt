use Rattle.std.proofs.Common.{◌≡◌, length}
use Rattle.cbor_view.specs.Items.{left}
use Rattle.doc_request.specs.Asked.{documents}
use Rattle.doc_request.specs.Views.{documents_left}
use Rattle.doc_request.proofs.documents.DocumentsIterator.next.Given as goal

-- the requests that are left give the documents that were left
abbrev pub invariant-loop-request : goal.invariant-loop-request
invariant-loop-request l = documents (left l.requests) ≡ documents_left l.fn.self

abbrev pub decreases-loop-request : goal.decreases-loop-request
decreases-loop-request l = length (left l.requests)
