use Rattle.std.proofs.Common.{◌≡◌}
use Rattle.cbor_view.specs.Pairs.{pairs_left}
use Rattle.mso_digests.specs.Digests.{have_distinct_uints}
use Rattle.mso_digests.proofs.doubled.have_distinct_uints.Given as goal

-- the namespaces that are left tell what all of them tell
abbrev pub invariant-loop-digests : goal.invariant-loop-digests
invariant-loop-digests l =
    (goal.iterator-loop-digests).can_next l.digests-iterator ×
    (goal.iterator-loop-digests).is_finite l.digests-iterator ×
    (have_distinct_uints (pairs_left l.digests-iterator) ≡ have_distinct_uints (pairs_left l.fn.namespaces))
