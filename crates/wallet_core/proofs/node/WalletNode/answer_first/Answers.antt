use Rattle.key_device.specs.Recording.{talk}
use Rattle.wallet_model.specs.Stands as states
use Rattle.wallet_core.specs.NodeView.{node_seen}
use Rattle.wallet_core.proofs.Within.{within_first}
use Rattle.wallet_core.proofs.NodeExits.{first_lost, settled}
use Rattle.wallet_core.proofs.node.WalletNode.answer_first.Goals as goal

pub settle-requires : goal.settle-requires
settle-requires g c = within_first c.in-Ok.ensures.round.opened c.in-Ok.round.after c.in-Ok.ensures.round.goes_on

pub returns-in-Ok-clause-answers : goal.returns-in-Ok-clause-answers
returns-in-Ok-clause-answers g c =
    settled (node_seen c.args.self.now) (states.Engaged c.args.engaged) c.args.message.now (talk c.args.device.now) (talk c.first_round.new.device) c.args.message_joiner c.in-Ok.round c.settle.result (node_seen c.settle.new.self)
    c.requires.lost c.in-Ok.ensures.round c.settle.ensures.settles c.settle.ensures.lost

pub returns-in-Err-clause-answers : goal.returns-in-Err-clause-answers
returns-in-Err-clause-answers g c =
    first_lost (node_seen c.args.self.now) c.args.engaged c.args.message.now (talk c.args.device.now) (talk c.first_round.new.device) c.in-Err.wanting (node_seen c.restore_first.new.self)
    c.in-Err.ensures.round c.restore_first.ensures
