-- The words that are left give what all words do.
use Rattle.std.proofs.Common.{◌≡◌, length}
use Rattle.mdoc_frame.specs.Pairs.{value_of}
use Rattle.mdoc_frame.proofs.words.value_of.Given as goal

abbrev pub invariant-loop-left : goal.invariant-loop-left
invariant-loop-left l = value_of l.name l.left ≡ value_of l.name l.words

abbrev pub decreases-loop-left : goal.decreases-loop-left
decreases-loop-left l = length l.left
