use Rattle.std.proofs.Common.{◌≡◌, ◌++◌, map, take}
use Rattle.std.specs.Prelude.{filter}
use Rattle.doc_store.specs.Document.{document_of}
use Rattle.doc_store.specs.StoreView.{documents_in}
use Rattle.store_write.specs.Merged.{is_new}
use Rattle.store_write.proofs.merged_documents.add_new.Given as goal

-- the documents so far
abbrev pub invariant-loop-place : goal.invariant-loop-place
invariant-loop-place l =
    map document_of l.documents.items ≡ map document_of l.fn.documents.items ++ filter (is_new (documents_in l.fn.own)) (take l.place (documents_in l.fn.received))
