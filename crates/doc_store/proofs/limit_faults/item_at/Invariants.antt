use Rattle.std.proofs.Common.{◌≡◌}
use Rattle.std.specs.Prelude.{slice_get}
use Rattle.cbor_view.specs.PartialItems.{partial_items_left}
use Rattle.doc_store.proofs.limit_faults.item_at.Given as goal

-- of the items that are left it is the one at the place that is left
abbrev pub invariant-loop-item : goal.invariant-loop-item
invariant-loop-item l =
    (goal.iterator-loop-item).can_next l.item-iterator ×
    (goal.iterator-loop-item).is_finite l.item-iterator ×
    (slice_get (partial_items_left l.item-iterator) l.before ≡ slice_get (partial_items_left l.fn.items) l.place)
