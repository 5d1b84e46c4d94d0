use Rattle.std.proofs.lemmas.Result.{err_from_is_err_and}
use Rattle.wallet_core.specs.NodeView.{node_seen}
use Rattle.wallet_core.proofs.NodeExits.{unheard}
use Rattle.wallet_core.proofs.Takes.{listened_takes}
use Rattle.wallet_core.proofs.node.WalletNode.take_part.Goals as goal

pub returns-in_err-arrival-clause-takes : goal.returns-in_err-arrival-clause-takes
returns-in_err-arrival-clause-takes c = λ told.
    let p = err_from_is_err_and c.from_residual.result c.from_residual.ensures.1 in rw p.1 (unheard (node_seen c.args.self.now) told c.join.new.self c.in_err-arrival.ensures.memory)

pub returns-clause-takes : goal.returns-clause-takes
returns-clause-takes c = λ told.
    listened_takes (node_seen c.args.self.now) c.args.fragment.now c.in-Nothing.ending c.join.new.self c.listen.result (node_seen c.listen.new.self) told c.requires.live
    (λ came joins. rw c.in-Nothing.is at (c.in_ok-arrival.ensures.brings came joins)) c.listen.ensures

pub unreachable-requires : goal.unreachable-requires
unreachable-requires c = rw c.in-Message.is at (c.in_ok-arrival.ensures.part c.requires.part)
