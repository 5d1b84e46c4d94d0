use Rattle.std.proofs.Common.{◌≡◌}
use Rattle.std.specs.Prelude.{flat_map}
use Rattle.cbor_view.specs.PartialItems.{partial_items_left}
use Rattle.doc_store.specs.Faults.{copy_faults, first_fault, earlier}
use Rattle.doc_store.proofs.copy_faults.of_copies.Given as goal

-- what was found, and the copies that are left
abbrev pub invariant-loop-copy : goal.invariant-loop-copy
invariant-loop-copy l =
    (goal.iterator-loop-copy).can_next l.copy-iterator ×
    (goal.iterator-loop-copy).is_finite l.copy-iterator ×
    (earlier l.found (first_fault (flat_map copy_faults (partial_items_left l.copy-iterator))) ≡ first_fault (flat_map copy_faults (partial_items_left l.fn.copies)))
