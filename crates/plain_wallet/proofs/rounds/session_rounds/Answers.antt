use Rattle.std.proofs.Common.{◌<◌, ◌∙◌, Err, length, arith}
use Rattle.std.proofs.lemmas.List.{get_or_default}
use Rattle.std.proofs.lemmas.Result.{err_from_is_err_and}
use Rattle.key_device.specs.Recording.{talk}
use Rattle.wallet_answer.specs.SetupView.{setup_of}
use Rattle.plain_wallet.proofs.RoundLemmas.{later_than_first, session_at_front, session_before, session_wanting, session_wanting_after}
use Rattle.plain_wallet.proofs.rounds.session_rounds.Goals as goal

pub returns-in_err-rounds-in-Ok-clause-rounds : goal.returns-in_err-rounds-in-Ok-clause-rounds
returns-in_err-rounds-in-Ok-clause-rounds g c =
    let p = err_from_is_err_and c.from_residual.result c.from_residual.ensures.1 in
    let some : 0 < length c.args.messages.now = omega arith in
    rw p.1 (session_at_front (setup_of c.args.setup.now) c.args.state c.args.messages.now c.message-item.result (talk c.args.device.now) (talk c.rounds_after.new.device) (Err _)
    c.in-len1-up.len_at_least (c.message-item.is ∙ get_or_default c.args.messages.now 0 _ _ some)
    (session_wanting_after (setup_of c.args.setup.now) c.args.state c.message-item.result (later_than_first c.args.messages.now) c.in-Ok.round
    (rw c.as_slice.ensures at c.in-Ok.ensures.round) c.in_err-rounds-in-Ok.ensures.rounds))

pub returns-in-Ok-clause-rounds : goal.returns-in-Ok-clause-rounds
returns-in-Ok-clause-rounds g c =
    let some : 0 < length c.args.messages.now = omega arith in
    session_at_front (setup_of c.args.setup.now) c.args.state c.args.messages.now c.message-item.result (talk c.args.device.now) (talk c.rounds_after.new.device) c.with_round.result
    c.in-len1-up.len_at_least (c.message-item.is ∙ get_or_default c.args.messages.now 0 _ _ some)
    (session_before (setup_of c.args.setup.now) c.args.state c.message-item.result (later_than_first c.args.messages.now) c.in-Ok.round c.in_ok-rounds-in-Ok.rounds.items c.with_round.result (talk c.rounds_after.new.device)
    (rw c.as_slice.ensures at c.in-Ok.ensures.round) c.in_ok-rounds-in-Ok.ensures.rounds (rw c.end-ended.ensures at c.with_round.ensures))

pub returns-clause-rounds : goal.returns-clause-rounds
returns-clause-rounds g c =
    let some : 0 < length c.args.messages.now = omega arith in
    session_at_front (setup_of c.args.setup.now) c.args.state c.args.messages.now c.message-item.result (talk c.args.device.now) (talk c.first_round.new.device) (Err _)
    c.in-len1-up.len_at_least (c.message-item.is ∙ get_or_default c.args.messages.now 0 _ _ some)
    (session_wanting (setup_of c.args.setup.now) c.args.state c.message-item.result (later_than_first c.args.messages.now) c.in-Err.field-0
    (rw c.as_slice.ensures at c.in-Err.ensures.round))
