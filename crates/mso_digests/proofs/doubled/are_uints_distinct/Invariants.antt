use Rattle.std.proofs.Common.{◌≡◌, length}
use Rattle.cbor_view.specs.Pairs.{pairs_left}
use Rattle.mso_digests.specs.Digests.{are_uints_distinct}
use Rattle.mso_digests.proofs.doubled.are_uints_distinct.Given as goal

-- the keys that are left tell what all of them tell
abbrev pub invariant-loop-key : goal.invariant-loop-key
invariant-loop-key l = are_uints_distinct (pairs_left l.entries) ≡ are_uints_distinct (pairs_left l.fn.entries)

abbrev pub decreases-loop-key : goal.decreases-loop-key
decreases-loop-key l = length (pairs_left l.entries)
