-- How a node is started.
use Rattle.std.specs.Prelude.{◌≡◌, ◌++◌, ℕ, List, [], Result, Ok, Err}
use Rattle.ble_fragments.specs.Joins.{Joins}
use Rattle.key_device.specs.Plan.{FollowsAll}
use Rattle.key_device.specs.declared.exchange.Exchange.{Exchange}
use Rattle.wallet_model.specs.Setup.{Setup}
use Rattle.wallet_model.specs.Stands as states
use Rattle.wallet_model.specs.Stands.{Node, StandsFor}
use Rattle.wallet_model.specs.Wallet.{Run, started}
use Rattle.wallet_core.specs.Ends.{start_end}
use Rattle.wallet_core.specs.declared.start_fault.StartFault.{StartFault}
use Rattle.wallet_core.specs.declared.started.Started.{Started}
use Rattle.wallet_core.specs.NodeView.{node_seen}
use Rattle.wallet_core.specs.declared.node.WalletNode.{WalletNode}

-- A node stands for no fragments, from the words that were dealt and the questions that were asked.
pub record IsStarted (W : Setup) (old new : List Exchange) (dealt dealt' : List ℕ) (node : Node) : Type 0 where
  pub words : List ℕ
  pub gained : dealt' ≡ dealt ++ words
  pub run : Run
  pub stands : StandsFor W words [] old new run node

-- A node is started, or the start follows its plan up to where it failed.
abbrev pub Starts : Setup → List Exchange → List Exchange → List ℕ → List ℕ → Result WalletNode StartFault → Type 0
Starts W old new dealt dealt' (Ok node) = IsStarted W old new dealt dealt' (node_seen node)
Starts W old new dealt dealt' (Err fault) = FollowsAll started old [] dealt new [] dealt' (start_end (Err fault))

-- the node of a session that was started: no fragment came, and nothing was released
pub record IsNew (W : Setup) (s : Started) (node : Node) : Type 0 where
  pub setup : node.setup ≡ W
  pub engagement : node.engagement ≡ s.engagement
  pub state : node.state ≡ states.Engaged s.state
  pub joins : Joins [] node.joined
  pub released : node.released ≡ []
