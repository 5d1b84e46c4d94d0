-- The pairs that are left have the name as all pairs do.
use Rattle.std.proofs.Common.{◌≡◌, drop, map}
use Rattle.mdoc_frame.specs.Pairs.{has_name}
use Rattle.mdoc_frame.specs.Row.{pair_seen}
use Rattle.mdoc_frame.proofs.words.has_name.Given as goal

abbrev pub invariant-loop-pair : goal.invariant-loop-pair
invariant-loop-pair l = has_name (map pair_seen (drop l.pair-index l.pairs)) l.name ≡ has_name (map pair_seen l.pairs) l.name
