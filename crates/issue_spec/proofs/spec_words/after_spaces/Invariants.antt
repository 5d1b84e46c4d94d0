use Rattle.std.proofs.Common.{◌≡◌, length}
use Rattle.mdoc_outside.specs.Lines.{after_spaces}
use Rattle.issue_spec.proofs.spec_words.after_spaces.Given as goal

abbrev pub invariant-loop-left : goal.invariant-loop-left
invariant-loop-left l = after_spaces l.left ≡ after_spaces l.fn.bytes

abbrev pub decreases-loop-left : goal.decreases-loop-left
decreases-loop-left l = length l.left
