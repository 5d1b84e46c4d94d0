use denote.Shadow.{shadow}
use denote.Text.{Utf8}
use Rattle.std.proofs.Common.{◌≡◌, ◌+◌, ◌<◌, ◌^◌, ◌++◌, length, map}
use Rattle.doc_request.specs.Asked.{wish_at, wishes_from}
use Rattle.doc_request.specs.Views.{begun_left, documents_left}
use Rattle.doc_request.specs.WishesView.{wishes_left}
use Rattle.doc_request.proofs.wishes.WishesIterator.next.Given as goal

-- what is left of the document that was begun, and the documents after it, are all that was left
abbrev pub invariant-documents : goal.invariant-documents
invariant-documents l =
    shadow (Utf8 l.doc_type) ×
    (l.next_place + length (documents_left l.documents) < 2 ^ 64) ×
    (map (wish_at l.place l.doc_type) (begun_left l.elements) ++ wishes_from l.next_place (documents_left l.documents) ≡ wishes_left l.fn.self)

abbrev pub decreases-documents : goal.decreases-documents
decreases-documents l = length (documents_left l.documents)
