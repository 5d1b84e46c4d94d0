use Rattle.std.proofs.Common.{◌≡◌, ◌++◌, map, take}
use Rattle.std.specs.Prelude.{flat_map}
use Rattle.mdoc_draft.specs.Core.{document_bytes}
use Rattle.mdoc_draft.specs.Entry.{given_of}
use Rattle.mdoc_draft.proofs.response_writer.put_documents.Given as goal

-- the documents so far
abbrev pub invariant-loop-document : goal.invariant-loop-document
invariant-loop-document l =
    l.build ≡ l.initial.build ++ flat_map (λ part. part) (map document_bytes (given_of (take l.document-index l.documents)))
