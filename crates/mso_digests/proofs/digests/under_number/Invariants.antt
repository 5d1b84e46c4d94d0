use Rattle.std.proofs.Common.{◌≡◌}
use Rattle.cbor_view.specs.Pairs.{pairs_left}
use Rattle.mso_digests.specs.Nested.{under_number}
use Rattle.mso_digests.proofs.digests.under_number.Given as goal

-- the digests that are left tell what all of them tell
abbrev pub invariant-loop-number : goal.invariant-loop-number
invariant-loop-number l =
    (goal.iterator-loop-number).can_next l.number-iterator ×
    (goal.iterator-loop-number).is_finite l.number-iterator ×
    (under_number l.id (pairs_left l.number-iterator) ≡ under_number l.id (pairs_left l.fn.digests))
