use Rattle.std.proofs.Common.{◌≡◌, ◌++◌, drop, length}
use Rattle.std.specs.Prelude.{flat_map}
use Rattle.cbor_view.specs.Shortest.{shortest_head}
use Rattle.doc_request.specs.Written.{document_maps}
use Rattle.doc_request.proofs.written.write_documents.Given as goal

-- the documents so far, and those that are left, are all
abbrev pub invariant-loop-place : goal.invariant-loop-place
invariant-loop-place l =
    l.build ++ flat_map (λ part. part) (document_maps l.place (drop l.place l.documents) l.auths)
    ≡ shortest_head 4 (length (document_maps 0 l.documents l.auths)) ++ flat_map (λ part. part) (document_maps 0 l.documents l.auths)
