use Rattle.std.proofs.Common.{◌≡◌, ◌++◌, map, take}
use Rattle.std.specs.Prelude.{flat_map}
use Rattle.doc_store.specs.Document.{document_of}
use Rattle.store_write.specs.Written.{copy_bytes}
use Rattle.store_write.proofs.copies.put_stored_copies.Given as goal

-- the copies so far
abbrev pub invariant-loop-place : goal.invariant-loop-place
invariant-loop-place l =
    l.build ≡ l.initial.build ++ flat_map (λ part. part) (map copy_bytes (take l.place (document_of l.fn.document).copies))
