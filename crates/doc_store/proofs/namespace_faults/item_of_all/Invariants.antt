use Rattle.std.proofs.Common.{◌≡◌}
use Rattle.std.specs.Prelude.{flat_map, slice_get}
use Rattle.cbor_view.specs.PartialPairs.{partial_pairs_left}
use Rattle.doc_store.specs.Faults.{space_items}
use Rattle.doc_store.proofs.namespace_faults.item_of_all.Given as goal

-- of the items of the namespaces that are left it is the one at the place that is left
abbrev pub invariant-loop-value : goal.invariant-loop-value
invariant-loop-value l =
    (goal.iterator-loop-value).can_next l.value-iterator ×
    (goal.iterator-loop-value).is_finite l.value-iterator ×
    (slice_get (flat_map space_items (partial_pairs_left l.value-iterator)) l.before
    ≡ slice_get (flat_map space_items (partial_pairs_left l.fn.entries)) l.place)
