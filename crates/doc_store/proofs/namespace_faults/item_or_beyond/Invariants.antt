use Rattle.std.proofs.Common.{◌≡◌}
use Rattle.cbor_view.specs.PartialItems.{partial_items_left}
use Rattle.doc_store.specs.ItemOrRest.{item_or_rest}
use Rattle.doc_store.proofs.namespace_faults.item_or_beyond.Given as goal

-- of the items that are left it is the one at the place that is left
abbrev pub invariant-loop-item : goal.invariant-loop-item
invariant-loop-item l =
    (goal.iterator-loop-item).can_next l.item-iterator ×
    (goal.iterator-loop-item).is_finite l.item-iterator ×
    (item_or_rest (partial_items_left l.item-iterator) l.before ≡ item_or_rest (partial_items_left l.fn.items) l.place)
