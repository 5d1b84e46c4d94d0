use Rattle.std.proofs.Common.{◌≡◌, arith}
use Rattle.wallet_answer.specs.SetupView.{setup_of}
use Rattle.wallet_core.proofs.FirstRound.{first_answered, first_ended, first_spent}
use Rattle.wallet_core.proofs.Opened.{first_place, first_room}
use Rattle.wallet_core.proofs.first_message.first_round.Goals as goal

pub reply_to-requires : goal.reply_to-requires
reply_to-requires g c =
    let first : c.in-Ok-establish.asked.place ≡ 1 = first_place c.args.state c.args.message.now (c.in-Ok-establish.asked, c.in-Ok-establish.text) c.in-Ok-establish.ensures.asked in
    omega arith

pub end_round-requires : goal.end_round-requires
end_round-requires g c =
    first_room c.args.state c.args.message.now c.in-Err-Ended.ended (rw c.in-Err-Ended.field-0-is at c.in-Err-Ended.ensures.asked)

pub returns-in-Ok-reply_to-clause-round : goal.returns-in-Ok-reply_to-clause-round
returns-in-Ok-reply_to-clause-round g c =
    first_answered (setup_of c.args.setup.now) c.args.state c.args.message.now c.in-Ok-establish.asked c.in-Ok-establish.text c.as_slice.result.now c.in-Ok-reply_to.round
    c.as_slice.ensures c.in-Ok-establish.ensures.asked c.in-Ok-reply_to.ensures.asked c.in-Ok-reply_to.ensures.next

pub returns-in-Ok-establish-clause-round : goal.returns-in-Ok-establish-clause-round
returns-in-Ok-establish-clause-round g c =
    first_spent (setup_of c.args.setup.now) c.args.state c.args.message.now c.in-Ok-establish.asked c.in-Ok-establish.text c.as_slice.result.now
    c.as_slice.ensures c.in-Ok-establish.ensures.asked c.in-Err.ensures.asked

pub returns-in-Err-Ended-clause-round : goal.returns-in-Err-Ended-clause-round
returns-in-Err-Ended-clause-round g c =
    first_ended (setup_of c.args.setup.now) c.args.state c.args.message.now c.in-Err-Ended.ended c.end_round.result
    (rw c.in-Err-Ended.field-0-is at c.in-Err-Ended.ensures.asked) c.end_round.ensures
