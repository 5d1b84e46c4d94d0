use Rattle.std.proofs.Common.{◌<◌, ◌∙◌, Err, length, arith}
use Rattle.std.proofs.lemmas.List.{get_or_default}
use Rattle.std.proofs.lemmas.Result.{err_from_is_err_and}
use Rattle.key_device.specs.Recording.{talk}
use Rattle.wallet_answer.specs.SetupView.{setup_of}
use Rattle.plain_wallet.proofs.RoundLemmas.{at_front, is_later, later_than_first, later_wanting, message_before, wanting_after}
use Rattle.plain_wallet.proofs.rounds.+rounds_after.Goals as goal

pub returns-in_err-rounds-in-Ok-clause-rounds : goal.returns-in_err-rounds-in-Ok-clause-rounds
returns-in_err-rounds-in-Ok-clause-rounds g t c =
    let p = err_from_is_err_and c.from_residual.result c.from_residual.ensures.1 in
    let some : 0 < length c.args.messages.now = omega arith in
    rw p.1 (at_front (setup_of c.args.setup.now) c.args.after c.in-Open.session c.args.messages.now c.message-item.result (talk c.args.device.now) (talk c.rounds_after.new.device) (Err _)
    c.in-Open.is c.in-len1-up.len_at_least (c.message-item.is ∙ get_or_default c.args.messages.now 0 _ _ some)
    (wanting_after (setup_of c.args.setup.now) c.in-Open.session c.message-item.result (later_than_first c.args.messages.now) c.in-Ok.round (is_later c.args.after c.in-Open.session c.in-Open.is c.requires.within)
    (rw c.as_slice.ensures at c.in-Ok.ensures.round) c.in_err-rounds-in-Ok.ensures.rounds))

pub returns-in-Ok-clause-rounds : goal.returns-in-Ok-clause-rounds
returns-in-Ok-clause-rounds g t c =
    let some : 0 < length c.args.messages.now = omega arith in
    at_front (setup_of c.args.setup.now) c.args.after c.in-Open.session c.args.messages.now c.message-item.result (talk c.args.device.now) (talk c.rounds_after.new.device) c.with_round.result
    c.in-Open.is c.in-len1-up.len_at_least (c.message-item.is ∙ get_or_default c.args.messages.now 0 _ _ some)
    (message_before (setup_of c.args.setup.now) c.in-Open.session c.message-item.result (later_than_first c.args.messages.now) c.in-Ok.round c.in_ok-rounds-in-Ok.rounds.items c.with_round.result (is_later c.args.after c.in-Open.session c.in-Open.is c.requires.within)
    (rw c.as_slice.ensures at c.in-Ok.ensures.round) c.in_ok-rounds-in-Ok.ensures.rounds (rw c.end-ended.ensures at c.with_round.ensures))

pub returns-clause-rounds : goal.returns-clause-rounds
returns-clause-rounds g t c =
    let some : 0 < length c.args.messages.now = omega arith in
    at_front (setup_of c.args.setup.now) c.args.after c.in-Open.session c.args.messages.now c.message-item.result (talk c.args.device.now) (talk c.next_round.new.device) (Err _)
    c.in-Open.is c.in-len1-up.len_at_least (c.message-item.is ∙ get_or_default c.args.messages.now 0 _ _ some)
    (later_wanting (setup_of c.args.setup.now) c.in-Open.session c.message-item.result (later_than_first c.args.messages.now) c.in-Err.field-0 (is_later c.args.after c.in-Open.session c.in-Open.is c.requires.within)
    (rw c.as_slice.ensures at c.in-Err.ensures.round))
