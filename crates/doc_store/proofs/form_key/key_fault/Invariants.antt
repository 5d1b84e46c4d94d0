use Rattle.std.proofs.Common.{◌≡◌}
use Rattle.std.specs.Prelude.{◌||◌, flat_map}
use Rattle.cbor_view.specs.PartialPairs.{partial_pairs_left}
use Rattle.doc_store.specs.Faults.{entries_of, first_fault, has_key, key_again, earlier, values_of}
use Rattle.doc_store.proofs.KeyPass.{again_or}
use Rattle.doc_store.proofs.form_key.key_fault.Given as goal

-- what was found, and the pairs that are left
abbrev pub invariant-loop-item : goal.invariant-loop-item
invariant-loop-item g l =
    (goal.iterator-loop-item g).can_next l.item-iterator ×
    (goal.iterator-loop-item g).is_finite l.item-iterator ×
    ((l.stands || has_key l.name (partial_pairs_left l.item-iterator)) ≡ has_key l.name (partial_pairs_left l.fn.entries)) ×
    (again_or l.stands l.again (entries_of l.name (partial_pairs_left l.item-iterator)) ≡ first_fault (key_again l.name (partial_pairs_left l.fn.entries))) ×
    (earlier l.found (first_fault (flat_map (g.K.FormKey.key l.key).value (values_of l.name (partial_pairs_left l.item-iterator))))
    ≡ first_fault (flat_map (g.K.FormKey.key l.key).value (values_of l.name (partial_pairs_left l.fn.entries))))
