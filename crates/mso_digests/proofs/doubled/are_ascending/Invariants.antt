use Rattle.std.proofs.Common.{◌≡◌, None}
use Rattle.cbor_view.specs.Pairs.{pairs_left}
use Rattle.mso_digests.specs.Nested.{are_ascending}
use Rattle.mso_digests.proofs.doubled.are_ascending.Given as goal

-- the keys that are left tell what all of them tell
abbrev pub invariant-loop-key : goal.invariant-loop-key
invariant-loop-key l =
    (goal.iterator-loop-key).can_next l.key-iterator ×
    (goal.iterator-loop-key).is_finite l.key-iterator ×
    (are_ascending l.last (pairs_left l.key-iterator) ≡ are_ascending None (pairs_left l.fn.entries))
