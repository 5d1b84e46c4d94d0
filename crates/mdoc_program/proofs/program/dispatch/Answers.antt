-- Each arm is of its command.
use Rattle.std.proofs.Common.{to_z-of_z}
use Rattle.key_device.specs.Recording.{inner, talk}
use Rattle.mdoc_outside.specs.Dealt.{dealt, inner as dice_of}
use Rattle.mdoc_program.proofs.OrderRun.{draft_arm, import_arm, issue_arm}
use Rattle.mdoc_program.proofs.program.dispatch.Goals as goal

pub draft-requires : goal.draft-requires
draft-requires g c = rw c.in-Draft.is at c.requires

pub issue-requires : goal.issue-requires
issue-requires g c = rw c.in-Issue.is at c.requires

pub returns-in-Draft-clause-does : goal.returns-in-Draft-clause-does
returns-in-Draft-clause-does g c = draft_arm c.args.order.command c.args.order.words.now c.args.moment _ _ _ c.draft.result c.in-Draft.is c.draft.ensures

pub returns-in-Issue-clause-does : goal.returns-in-Issue-clause-does
returns-in-Issue-clause-does g c = issue_arm c.args.order.command c.args.order.words.now c.args.moment _ _ _ _ c.issue.result c.in-Issue.is c.issue.ensures.does

pub import-requires : goal.import-requires
import-requires g c = rw c.in-Import.is at c.requires

pub returns-in-Import-clause-does : goal.returns-in-Import-clause-does
returns-in-Import-clause-does g c = import_arm c.args.order.command c.args.order.words.now c.args.moment _ _ _ _ c.import.result c.in-Import.is (rw (to_z-of_z c.ranges.moment) at
    (c.import.ensures.does (talk c.args.wallet_device.now) (dealt c.args.dice.now) (g.D.KeyDevice.faults (inner c.args.wallet_device.now)) (g.R.Dice.faults (dice_of c.args.dice.now))))
