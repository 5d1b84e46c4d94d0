-- The words fit the pairs that are left as they fit all pairs.
use Rattle.std.proofs.Common.{◌≡◌, drop, map}
use Rattle.mdoc_frame.specs.Pairs.{all_fit}
use Rattle.mdoc_frame.specs.Row.{pair_seen}
use Rattle.mdoc_frame.proofs.words.all_fit.Given as goal

abbrev pub invariant-loop-pair : goal.invariant-loop-pair
invariant-loop-pair l = all_fit (map pair_seen (drop l.pair-index l.pairs)) l.words ≡ all_fit (map pair_seen l.pairs) l.words
