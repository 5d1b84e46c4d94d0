use Rattle.std.proofs.Common.{add-one}
use Rattle.doc_store.specs.Document.{document_of}
use Rattle.doc_store.specs.StoredCopy.{copy_of}
use Rattle.store_write.specs.Written.{copy_bytes}
use Rattle.store_write.proofs.InRow.{written-more}
use Rattle.store_write.proofs.copies.put_stored_copies.Goals as goal

pub loop-place-preserved : goal.loop-place-preserved
loop-place-preserved c =
    rw add-one
    (written-more copy_bytes (document_of c.args.document.now).copies c.loop-place.place (copy_of c.copy.result) c.array.new.self c.loop-place.build c.put_stored_copy.new.build
    c.copy.ensures.exact c.loop-place.invariant c.in_ok-put_stored_copy.ensures)
