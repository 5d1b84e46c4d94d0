-- The words that are left are pairs as all words are.
use Rattle.std.proofs.Common.{◌≡◌, length, map}
use Rattle.mdoc_frame.specs.Pairs.{are_pairs}
use Rattle.mdoc_frame.specs.Row.{pair_seen}
use Rattle.mdoc_frame.proofs.words.are_pairs.Given as goal

abbrev pub invariant-loop-left : goal.invariant-loop-left
invariant-loop-left l = are_pairs (map pair_seen l.pairs) l.left ≡ are_pairs (map pair_seen l.pairs) l.words

abbrev pub decreases-loop-left : goal.decreases-loop-left
decreases-loop-left l = length l.left
