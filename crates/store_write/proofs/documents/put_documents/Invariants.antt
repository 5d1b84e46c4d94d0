use Rattle.std.proofs.Common.{◌≡◌, ◌++◌, map, take}
use Rattle.std.specs.Prelude.{flat_map}
use Rattle.doc_store.specs.Document.{document_of}
use Rattle.store_write.specs.Written.{document_bytes}
use Rattle.store_write.proofs.documents.put_documents.Given as goal

-- the documents so far
abbrev pub invariant-loop-document : goal.invariant-loop-document
invariant-loop-document l =
    l.build ≡ l.initial.build ++ flat_map (λ part. part) (map document_bytes (map document_of (take l.document-index l.documents)))
