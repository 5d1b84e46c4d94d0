use Rattle.std.proofs.Common.{◌≡◌, length}
use Rattle.issue_spec.specs.SpecWords.{behind_word}
use Rattle.issue_spec.proofs.spec_words.behind_word.Given as goal

abbrev pub invariant-loop-left : goal.invariant-loop-left
invariant-loop-left l = behind_word l.left ≡ behind_word l.fn.bytes

abbrev pub decreases-loop-left : goal.decreases-loop-left
decreases-loop-left l = length l.left
