-- The value so far and the words that are left fit as all words do.
use Rattle.std.proofs.Common.{◌≡◌, ◌++◌, length, option_copied}
use Rattle.std.specs.Prelude.{option_to_list}
use Rattle.mdoc_frame.specs.Pairs.{fits, values_of}
use Rattle.mdoc_frame.specs.Row.{pair_seen}
use Rattle.mdoc_frame.proofs.words.fits.Given as goal

abbrev pub invariant-loop-left : goal.invariant-loop-left
invariant-loop-left l =
    fits (pair_seen l.pair) (option_to_list (option_copied l.found) ++ values_of l.pair.name.now l.left) ≡ fits (pair_seen l.pair) (values_of l.pair.name.now l.words)

abbrev pub decreases-loop-left : goal.decreases-loop-left
decreases-loop-left l = length l.left
