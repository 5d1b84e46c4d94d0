use Rattle.std.proofs.Common.{◌≡◌}
use Rattle.std.specs.Prelude.{slice_get}
use Rattle.cbor_view.specs.PartialPairs.{partial_pairs_left}
use Rattle.doc_store.specs.Faults.{keys_in}
use Rattle.doc_store.proofs.limit_faults.key_at.Given as goal

-- of the keys that are left it is the one at the place that is left
abbrev pub invariant-loop-key : goal.invariant-loop-key
invariant-loop-key l =
    (goal.iterator-loop-key).can_next l.key-iterator ×
    (goal.iterator-loop-key).is_finite l.key-iterator ×
    (slice_get (keys_in (partial_pairs_left l.key-iterator)) l.before ≡ slice_get (keys_in (partial_pairs_left l.fn.entries)) l.place)
