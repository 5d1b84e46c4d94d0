use Rattle.std.proofs.Common.{◌≡◌, ◌++◌, map}
use Rattle.doc_response.specs.AnsweredView.{item_seen}
use Rattle.doc_store.specs.CopyItems.{copy_items_left}
use Rattle.doc_store.specs.StoredCopy.{copy_of}
use Rattle.store_write.proofs.copies.stored_items.Given as goal

-- the items so far, and those that are left
abbrev pub invariant-loop-ns : goal.invariant-loop-ns
invariant-loop-ns l =
    (goal.iterator-loop-ns).can_next l.ns-iterator ×
    (goal.iterator-loop-ns).is_finite l.ns-iterator ×
    (map item_seen l.items.items ++ copy_items_left l.ns-iterator ≡ (copy_of l.fn.copy).items)
