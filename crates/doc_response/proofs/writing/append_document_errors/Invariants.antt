use Rattle.std.proofs.Common.{◌≡◌, ◌++◌, map, take}
use Rattle.std.specs.Prelude.{flat_map}
use Rattle.doc_response.specs.Answered.{document_error}
use Rattle.doc_response.specs.AnsweredView.{text_seen}
use Rattle.doc_response.proofs.writing.append_document_errors.Given as goal

-- the errors so far
abbrev pub invariant-loop-doc_type : goal.invariant-loop-doc_type
invariant-loop-doc_type l =
    l.build ≡ l.initial.build ++ flat_map (λ part. part) (map document_error (map text_seen (take l.doc_type-index l.types)))
