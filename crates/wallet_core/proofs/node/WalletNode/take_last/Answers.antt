use Rattle.std.proofs.lemmas.Result.{err_from_is_err_and}
use Rattle.key_device.specs.Recording.{talk}
use Rattle.wallet_core.specs.NodeView.{node_seen}
use Rattle.wallet_core.proofs.NodeExits.{unchanged}
use Rattle.wallet_core.proofs.Takes.{answers_take, listened_takes}
use Rattle.wallet_core.proofs.node.WalletNode.take_last.Goals as goal

pub returns-in_err-message_joiner-clause-takes : goal.returns-in_err-message_joiner-clause-takes
returns-in_err-message_joiner-clause-takes g c =
    let p = err_from_is_err_and c.from_residual.result c.from_residual.ensures.1 in rw p.1 (unchanged (node_seen c.args.self.now) (talk c.args.device.now))

pub returns-in_err-arrival-clause-takes : goal.returns-in_err-arrival-clause-takes
returns-in_err-arrival-clause-takes g c =
    let p = err_from_is_err_and c.from_residual-in_err-arrival.result c.from_residual-in_err-arrival.ensures.1 in rw p.1 (unchanged (node_seen c.args.self.now) (talk c.args.device.now))

pub answer-requires-clause-short : goal.answer-requires-clause-short
answer-requires-clause-short g c = rw c.as_slice.ensures (rw c.in-Message.is at c.in_ok-arrival.ensures.short)

pub returns-in-Message-clause-takes : goal.returns-in-Message-clause-takes
returns-in-Message-clause-takes g c =
    answers_take (node_seen c.args.self.now) c.args.fragment.now c.in-Message.message (talk c.args.device.now) (talk c.answer.new.device) c.join.new.self c.answer.result (node_seen c.answer.new.self) c.requires
    (λ came joins. rw c.in-Message.is at (c.in_ok-arrival.ensures.brings came (rw c.in_ok-message_joiner.ensures joins)))
    (rw c.as_slice.ensures at c.answer.ensures.answers)

pub returns-in-Nothing-clause-takes : goal.returns-in-Nothing-clause-takes
returns-in-Nothing-clause-takes g c =
    listened_takes (node_seen c.args.self.now) c.args.fragment.now c.in-Nothing.ending c.join.new.self c.listen.result (node_seen c.listen.new.self) (talk c.args.device.now) c.requires
    (λ came joins. rw c.in-Nothing.is at (c.in_ok-arrival.ensures.brings came (rw c.in_ok-message_joiner.ensures joins))) c.listen.ensures
