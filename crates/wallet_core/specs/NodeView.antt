-- What contracts see of a node.
use Rattle.wallet_answer.specs.SetupView.{setup_of}
use Rattle.wallet_model.specs.Stands.{Node, NodeState}
use Rattle.wallet_core.specs.StateView.{state_seen}
use Rattle.wallet_core.specs.declared.node.WalletNode.{WalletNode}

abbrev pub node_seen : WalletNode → Node
node_seen n = record {
  setup = setup_of n.setup;
  engagement = n.engagement;
  state = state_seen n.state;
  joined = n.message_joiner;
  released = n.released.items;
}

-- a node with its session in another state
abbrev pub node_in : Node → NodeState → Node
node_in node state = record { setup = node.setup; engagement = node.engagement; state = state; joined = node.joined; released = node.released }
