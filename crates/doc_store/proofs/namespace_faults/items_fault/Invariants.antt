use Rattle.std.proofs.Common.{◌≡◌}
use Rattle.std.specs.Prelude.{filter_map, flat_map}
use Rattle.cbor_view.specs.PartialItems.{partial_items_left}
use Rattle.doc_store.specs.Faults.{first_fault, item_faults, item_name, repeats, earlier}
use Rattle.doc_store.specs.Names.{repeats_from}
use Rattle.doc_store.proofs.namespace_faults.items_fault.Given as goal

-- what was found, the names so far, and what is left
abbrev pub invariant-loop-item : goal.invariant-loop-item
invariant-loop-item l =
    (goal.iterator-loop-item).can_next l.item-iterator ×
    (goal.iterator-loop-item).is_finite l.item-iterator ×
    (earlier l.found (first_fault (flat_map item_faults (partial_items_left l.item-iterator))) ≡ first_fault (flat_map item_faults (partial_items_left l.fn.items))) ×
    (repeats_from l.names (filter_map item_name (partial_items_left l.item-iterator)) ≡ repeats (filter_map item_name (partial_items_left l.fn.items)))
