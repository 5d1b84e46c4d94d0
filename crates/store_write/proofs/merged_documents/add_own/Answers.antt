use Rattle.std.proofs.Common.{[], ◌∷◌, ◌++◌, map, ap, add-one, ◌∙◌}
use Rattle.doc_store.specs.Document.{document_of}
use Rattle.doc_store.specs.Store.{Document}
use Rattle.doc_store.specs.StoreView.{documents_in}
use Rattle.store_write.specs.Merged.{newest}
use Rattle.store_write.proofs.Added.{mapped-more}
use Rattle.store_write.proofs.merged_documents.add_own.Goals as goal

pub loop-place-preserved : goal.loop-place-preserved
loop-place-preserved c =
    let before = map document_of c.loop-place.documents.items in
    rw add-one
    (mapped-more (newest (documents_in c.args.received.now)) (documents_in c.args.own.now) c.loop-place.place (document_of c.document.result) (map document_of c.args.documents.now.items) before (map document_of c.add.new.documents.items)
    c.document.ensures.exact c.loop-place.invariant (c.in_ok-add.ensures ∙ ap (λ (d : Document). before ++ d ∷ []) c.newest.ensures))
