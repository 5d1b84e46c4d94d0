use Rattle.wallet_answer.specs.SetupView.{setup_of}
use Rattle.wallet_core.specs.NodeView.{node_seen}
use Rattle.wallet_core.proofs.StartLemmas.{begins}
use Rattle.wallet_core.proofs.node.WalletNode.new.Goals as goal

pub returns-in-Ok-clause-starts : goal.returns-in-Ok-clause-starts
returns-in-Ok-clause-starts g c =
    begins (setup_of c.args.setup) c.in-Ok.started (node_seen c.of_start.result) c.in-Ok.ensures.asked c.in-Ok.ensures.engagement c.of_start.ensures
