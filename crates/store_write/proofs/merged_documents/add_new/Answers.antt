use Rattle.std.proofs.Common.{map, add-one}
use Rattle.doc_store.specs.Document.{document_of}
use Rattle.doc_store.specs.StoreView.{documents_in}
use Rattle.store_write.specs.Merged.{is_new}
use Rattle.store_write.proofs.Added.{filtered-more}
use Rattle.store_write.proofs.merged_documents.add_new.Goals as goal

pub loop-place-preserved : goal.loop-place-preserved
loop-place-preserved c =
    rw add-one
    (filtered-more (is_new (documents_in c.args.own.now)) (documents_in c.args.received.now) c.loop-place.place (document_of c.document.result) (map document_of c.args.documents.now.items) (map document_of c.loop-place.documents.items) (map document_of c.add_if_new.new.documents.items)
    c.document.ensures.exact c.loop-place.invariant c.in_ok-add_if_new.ensures)
