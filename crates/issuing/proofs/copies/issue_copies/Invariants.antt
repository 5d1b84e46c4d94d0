-- So far the plan was followed as often as copies were appended.
use Rattle.std.proofs.Common.{◌≡◌}
use Rattle.mdoc_outside.specs.Dealt.{dealt, inner as dice_of}
use Rattle.mdoc_outside.specs.GaveWords.{GaveWords}
use Rattle.issue_spec.specs.Spec.{fields}
use Rattle.key_device.specs.Gave.{Gave}
use Rattle.key_device.specs.Recording.{inner, talk}
use Rattle.issuing.proofs.CopyLemmas.{SoFar}
use Rattle.issuing.specs.Copies.{copy}
use Rattle.issuing.proofs.copies.issue_copies.Given as goal

abbrev pub invariant-loop-place : goal.invariant-loop-place
invariant-loop-place g l = record {
  so_far : SoFar (copy (fields l.spec) l.signer) l.place l.initial.build l.build (talk l.fn.holder) (talk l.fn.issuer) (dealt l.fn.dice)
      (talk l.holder) (talk l.issuer) (dealt l.dice);
  holder : Gave g.D.KeyDevice.gives g.D.KeyDevice.unasked g.D.KeyDevice.faults l.fn.holder l.holder;
  issuer : Gave g.E.KeyDevice.gives g.E.KeyDevice.unasked g.E.KeyDevice.faults l.fn.issuer l.issuer;
  words : GaveWords g.R.Dice.gives g.R.Dice.faults l.fn.dice l.dice;
  same_holder : g.D.KeyDevice.faults (inner l.holder) ≡ g.D.KeyDevice.faults (inner l.fn.holder);
  same_issuer : g.E.KeyDevice.faults (inner l.issuer) ≡ g.E.KeyDevice.faults (inner l.fn.issuer);
  same_dice : g.R.Dice.faults (dice_of l.dice) ≡ g.R.Dice.faults (dice_of l.fn.dice);
}
