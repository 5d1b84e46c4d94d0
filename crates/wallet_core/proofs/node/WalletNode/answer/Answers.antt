use Rattle.std.proofs.Common.{◌≡◌}
use Rattle.std.proofs.lemmas.Result.{err_from_is_err_and}
use Rattle.key_device.specs.Recording.{talk}
use Rattle.wallet_core.specs.NodeView.{node_seen}
use Rattle.wallet_core.specs.declared.state.State.TheVariants.{Engaged, Open}
use Rattle.wallet_core.proofs.NodeExits.{unchanged}
use Rattle.wallet_core.proofs.node.WalletNode.answer.Goals as goal

pub returns-in_err-check_memory-clause-answers : goal.returns-in_err-check_memory-clause-answers
returns-in_err-check_memory-clause-answers g c =
    let p = err_from_is_err_and c.from_residual.result c.from_residual.ensures.1 in rw p.1 (unchanged (node_seen c.args.self.now) (talk c.args.device.now))

pub returns-in-Engaged-clause-answers : goal.returns-in-Engaged-clause-answers
returns-in-Engaged-clause-answers g c =
    let is : c.args.self.now.state ≡ Engaged c.in-Engaged.engaged = cc in rw is c.answer_first.ensures.answers

pub returns-in-Open-clause-answers : goal.returns-in-Open-clause-answers
returns-in-Open-clause-answers g c =
    let is : c.args.self.now.state ≡ Open c.in-Open.waiting = cc in rw is c.answer_next.ensures.answers
