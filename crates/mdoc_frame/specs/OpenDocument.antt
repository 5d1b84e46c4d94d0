-- What contracts see of the document of a wishes file whose wishes are being read.
use Rattle.std.specs.Prelude.{ℕ, length, Option, Some, None}
use Rattle.doc_request.specs.declared.doc_draft.DocDraft.{DocDraft}
use Rattle.mdoc_frame.specs.declared.open_document.OpenDocument.{OpenDocument}

abbrev pub open_document : OpenDocument → DocDraft
open_document document = record { doc_type = document.doc_type; wishes = document.wishes.items }

-- the number of its wishes
abbrev pub open_count : Option OpenDocument → ℕ
open_count None = 0
open_count (Some document) = length document.wishes.items
