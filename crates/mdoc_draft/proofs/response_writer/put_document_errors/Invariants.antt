use Rattle.std.proofs.Common.{◌≡◌, ◌++◌, map, take}
use Rattle.std.specs.Prelude.{flat_map}
use Rattle.mdoc_draft.specs.Entry.{refused_document, refused_of}
use Rattle.mdoc_draft.proofs.response_writer.put_document_errors.Given as goal

-- the errors so far
abbrev pub invariant-loop-document : goal.invariant-loop-document
invariant-loop-document l =
    l.build ≡ l.initial.build ++ flat_map (λ part. part) (map refused_document (refused_of (take l.document-index l.documents)))
