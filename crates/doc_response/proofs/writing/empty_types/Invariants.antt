use Rattle.std.proofs.Common.{◌≡◌, map, take}
use Rattle.doc_response.specs.AnsweredView.{text_seen}
use Rattle.doc_response.specs.DraftView.{document_seen}
use Rattle.doc_response.specs.Written.{empty, types_of}
use Rattle.doc_response.proofs.writing.empty_types.Given as goal

-- the types so far
abbrev pub invariant-loop-document : goal.invariant-loop-document
invariant-loop-document l = map text_seen l.types.items ≡ types_of (empty (map document_seen (take l.document-index l.documents)))
