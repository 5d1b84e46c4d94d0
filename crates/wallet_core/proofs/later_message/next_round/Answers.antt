use Rattle.std.proofs.Common.{◌≡◌, ap, arith}
use Rattle.key_device.specs.Recording.{talk}
use Rattle.session_seal.specs.Wallet.{WalletSession}
use Rattle.wallet_answer.specs.SetupView.{setup_of}
use Rattle.wallet_core.proofs.NextRound.{next_answered}
use Rattle.wallet_core.proofs.Opened.{later_room, later_session}
use Rattle.wallet_core.proofs.later_message.next_round.Goals as goal

pub reply_or_back-requires-clause-later : goal.reply_or_back-requires-clause-later
reply_or_back-requires-clause-later g c =
    let same = later_session c.args.state c.args.message.now (c.in-Ok-open_next.asked, c.in-Ok-open_next.text) c.in-Ok-open_next.ensures in
    let place : c.in-Ok-open_next.asked.place ≡ c.args.state.place = ap (λ (session : WalletSession). session.place) same in
    omega arith

pub reply_or_back-requires-clause-place : goal.reply_or_back-requires-clause-place
reply_or_back-requires-clause-place g c =
    let same = later_session c.args.state c.args.message.now (c.in-Ok-open_next.asked, c.in-Ok-open_next.text) c.in-Ok-open_next.ensures in
    let place : c.in-Ok-open_next.asked.place ≡ c.args.state.place = ap (λ (session : WalletSession). session.place) same in
    omega arith

pub end_round-requires : goal.end_round-requires
end_round-requires g c =
    later_room c.args.state c.args.message.now c.in-Err-Ended.ended (rw c.in-Err-Ended.field-0-is at c.in-Err-Ended.ensures)

pub returns-in-Ok-open_next-clause-round : goal.returns-in-Ok-open_next-clause-round
returns-in-Ok-open_next-clause-round g c =
    next_answered (setup_of c.args.setup.now) c.args.state c.args.message.now (talk c.args.device.now) (talk c.reply_or_back.new.device)
    c.in-Ok-open_next.asked c.in-Ok-open_next.text c.as_slice.result.now c.reply_or_back.result
    c.as_slice.ensures c.in-Ok-open_next.ensures c.reply_or_back.ensures.round
