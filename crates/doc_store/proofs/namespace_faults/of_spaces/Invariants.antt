use Rattle.std.proofs.Common.{◌≡◌}
use Rattle.std.specs.Prelude.{filter_map, flat_map}
use Rattle.cbor_view.specs.PartialPairs.{partial_pairs_left}
use Rattle.doc_store.specs.Faults.{first_fault, keys_in, repeats, earlier, space_faults, with_text}
use Rattle.doc_store.specs.Names.{repeats_from}
use Rattle.doc_store.proofs.namespace_faults.of_spaces.Given as goal

-- what was found, the names so far, and what is left
abbrev pub invariant-loop-key : goal.invariant-loop-key
invariant-loop-key l =
    (goal.iterator-loop-key).can_next l.key-iterator ×
    (goal.iterator-loop-key).is_finite l.key-iterator ×
    (earlier l.found (first_fault (flat_map space_faults (partial_pairs_left l.key-iterator))) ≡ first_fault (flat_map space_faults (partial_pairs_left l.fn.entries))) ×
    (repeats_from l.names (filter_map with_text (keys_in (partial_pairs_left l.key-iterator))) ≡ repeats (filter_map with_text (keys_in (partial_pairs_left l.fn.entries))))
