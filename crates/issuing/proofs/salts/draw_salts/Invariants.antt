-- So far the plan was followed as often.
use Rattle.std.proofs.Common.{◌≡◌, length, [], Ok}
use Rattle.mdoc_outside.specs.Dealt.{dealt, inner}
use Rattle.mdoc_outside.specs.GaveWords.{GaveWords}
use Rattle.key_device.specs.Plan.{FollowsAll, Finished}
use Rattle.key_device.specs.PlanSteps.{times}
use Rattle.issuing.specs.Questions.{salt}
use Rattle.issuing.proofs.salts.draw_salts.Given as goal

abbrev pub invariant-loop-place : goal.invariant-loop-place
invariant-loop-place g l = record {
  asked : FollowsAll (times l.place salt) [] [] (dealt l.fn.dice) [] [] (dealt l.dice) (Finished (Ok l.salts.items));
  gave : GaveWords g.R.Dice.gives g.R.Dice.faults l.fn.dice l.dice;
  same : g.R.Dice.faults (inner l.dice) ≡ g.R.Dice.faults (inner l.fn.dice);
  count : length l.salts.items ≡ l.place;
}
