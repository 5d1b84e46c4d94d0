-- What a node makes of a fragment, and of the end of the link.
use Rattle.std.specs.Prelude.{◌≡◌, ℕ, List, [], ◌∷◌, ◌++◌, Option, Some, None, Result, Ok, Err}
use Rattle.ble_fragments.specs.Whole.{whole}
use Rattle.ble_fragments.specs.declared.ending.Ending.{Ending}
use Rattle.key_device.specs.declared.exchange.Exchange.{Exchange}
use Rattle.mdoc_outside.specs.declared.fragment.Fragment.{Fragment}
use Rattle.mdoc_outside.specs.declared.memory.Memory.{Memory}
use Rattle.session_seal.specs.declared.wallet_end.WalletEnd.{WalletEnd}
use Rattle.session_seal.specs.declared.wallet_end.WalletEnd.TheVariants as ends
use Rattle.wallet_model.specs.Setup.{Setup}
use Rattle.wallet_model.specs.Stands as states
use Rattle.wallet_model.specs.Stands.{Node, NodeState, StandsFor}
use Rattle.wallet_model.specs.Wallet.{Run, closed, end_of}
use Rattle.wallet_model.specs.Taking.{Took, list_end}
use Rattle.wallet_core.specs.Answering.{IsLost}
use Rattle.wallet_core.specs.NodeView.{node_in}
use Rattle.wallet_core.specs.StateView.{over_end}
use Rattle.wallet_core.specs.declared.reply.Reply.{Reply}

-- Whatever fragments a node stood for before one more, it stands for them with that one, and the reply is the new one. Where
-- memory was wanting, either nothing was asked and the node is as it was, or it is lost.
abbrev pub Takes : Node → List Exchange → Fragment → Result Reply Memory → List Exchange → Node → Type 0
Takes node old f (Ok reply) new after =
    (W : Setup) (words : List ℕ) (came : List Fragment) (begun : List Exchange) (run : Run)
    → StandsFor W words came begun old run node → Took W words (came ++ f ∷ []) begun new run after reply.message reply.ended
Takes node old f (Err wanting) new after = IsLost node old new after

-- what is always the same
pub record IsSameSetup (node after : Node) : Type 0 where
  pub setup : after.setup ≡ node.setup
  pub engagement : after.engagement ≡ node.engagement

-- a session that doesn't go on has no message, and its end stays
pub record Rests (node : Node) (end : WalletEnd) (old : List Exchange) (result : Result Reply Memory) (new : List Exchange) (after : Node) : Type 0 where
  pub answer : result ≡ Ok (record { message = None; ended = Some end })
  pub same : after ≡ node
  pub unasked : new ≡ old

abbrev pub RestsAfterEnd : Node → List Exchange → Result Reply Memory → List Exchange → Node → Type 0
RestsAfterEnd node old result new after = (end : WalletEnd) → over_end node.state ≡ Some end → Rests node end old result new after

-- Whatever fragments a node stood for, its end is theirs where no more come.
abbrev pub Closes : Node → WalletEnd → Type 0
Closes node result =
    (W : Setup) (words : List ℕ) (came : List Fragment) (begun talk : List Exchange) (run : Run)
    → StandsFor W words came begun talk run node → end_of run (closed (whole came).ending) ≡ Some result

-- how a node is closed: a session that goes on ends by the reader that went away
abbrev pub closed_end : NodeState → WalletEnd
closed_end (states.Engaged start) = ends.NoSession
closed_end (states.Open session) = ends.PeerEnded
closed_end (states.Ended end) = end
closed_end states.Spent = ends.Spent

abbrev pub closed_state : NodeState → NodeState
closed_state (states.Engaged start) = states.Ended ends.NoSession
closed_state (states.Open session) = states.Ended ends.PeerEnded
closed_state (states.Ended end) = states.Ended end
closed_state states.Spent = states.Spent

-- what becomes of a session by how the list of fragments ends
abbrev pub listened : NodeState → Option WalletEnd → NodeState
listened state None = state
listened state (Some end) = states.Ended end

-- a node goes on without a message, or ends as the fragments do
pub record Listens (node : Node) (ending : Ending) (reply : Reply) (after : Node) : Type 0 where
  pub is_after : after ≡ node_in node (listened node.state (list_end node.state ending))
  pub message : reply.message ≡ None
  pub ended : reply.ended ≡ list_end node.state ending
