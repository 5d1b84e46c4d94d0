use Rattle.std.proofs.Common.{◌≡◌, drop}
use Rattle.std.specs.List.{list_any}
use Rattle.std.specs.Str.{bytes_eq}
use Rattle.doc_request.specs.declared.doc_draft.DocDraft.{DocDraft}
use Rattle.reader_checks.proofs.document.is_type_requested.Given as goal

-- the documents that are left tell what all of them tell
abbrev pub invariant-loop-asked : goal.invariant-loop-asked
invariant-loop-asked l =
    list_any (λ (asked : DocDraft). bytes_eq asked.doc_type l.doc_type) (drop l.asked-index l.request.documents)
    ≡ list_any (λ (asked : DocDraft). bytes_eq asked.doc_type l.doc_type) l.request.documents
