use Rattle.std.proofs.Common.{◌≡◌}
use Rattle.std.specs.List.{list_all}
use Rattle.cbor_view.specs.Pairs.{pairs_left}
use Rattle.mso_digests.specs.Nested.{has_length}
use Rattle.mso_digests.proofs.digests.are_long.Given as goal

-- the digests that are left tell what all of them tell
abbrev pub invariant-loop-number : goal.invariant-loop-number
invariant-loop-number l =
    (goal.iterator-loop-number).can_next l.number-iterator ×
    (goal.iterator-loop-number).is_finite l.number-iterator ×
    (list_all has_length (pairs_left l.number-iterator) ≡ list_all has_length (pairs_left l.fn.digests))
