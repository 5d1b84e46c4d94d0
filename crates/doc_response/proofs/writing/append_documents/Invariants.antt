use Rattle.std.proofs.Common.{◌≡◌, ◌++◌, map, take}
use Rattle.std.specs.Prelude.{flat_map}
use Rattle.doc_response.specs.DraftView.{document_seen}
use Rattle.doc_response.specs.Written.{document_bytes, given}
use Rattle.doc_response.proofs.writing.append_documents.Given as goal

-- the documents so far
abbrev pub invariant-loop-document : goal.invariant-loop-document
invariant-loop-document l =
    l.build ≡ l.initial.build ++ flat_map (λ part. part) (map document_bytes (given (map document_seen (take l.document-index l.documents))))
