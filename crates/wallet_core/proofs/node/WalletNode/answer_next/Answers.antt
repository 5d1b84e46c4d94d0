use Rattle.key_device.specs.Recording.{talk}
use Rattle.wallet_answer.specs.SetupView.{setup_of}
use Rattle.wallet_model.specs.Stands as states
use Rattle.wallet_core.specs.NodeView.{node_seen}
use Rattle.wallet_core.proofs.Within.{within_next}
use Rattle.wallet_core.proofs.NodeExits.{next_lost, placed, settled}
use Rattle.wallet_core.proofs.node.WalletNode.answer_next.Goals as goal

pub settle-requires : goal.settle-requires
settle-requires g c = within_next c.into_open.result c.in-Ok.round.after c.into_open.ensures.later c.in-Ok.ensures.round.1

pub restore_next-requires-clause-within : goal.restore_next-requires-clause-within
restore_next-requires-clause-within g c =
    placed (setup_of c.args.self.now.setup) c.into_open.result c.args.message.now (talk c.args.device.now) (talk c.next_round.new.device) c.in-Err.wanting c.into_open.ensures.later c.into_open.ensures.within c.in-Err.ensures.round

pub returns-in-Ok-clause-answers : goal.returns-in-Ok-clause-answers
returns-in-Ok-clause-answers g c =
    settled (node_seen c.args.self.now) (states.Open c.args.waiting) c.args.message.now (talk c.args.device.now) (talk c.next_round.new.device) c.args.message_joiner c.in-Ok.round c.settle.result (node_seen c.settle.new.self)
    c.requires.lost (rw c.into_open.ensures.same at c.in-Ok.ensures.round) c.settle.ensures.settles c.settle.ensures.lost

pub returns-in-Err-clause-answers : goal.returns-in-Err-clause-answers
returns-in-Err-clause-answers g c =
    next_lost (node_seen c.args.self.now) c.args.waiting c.args.message.now (talk c.args.device.now) (talk c.next_round.new.device) c.in-Err.wanting (node_seen c.restore_next.new.self)
    (rw c.into_open.ensures.same at c.in-Err.ensures.round) c.restore_next.ensures
