-- What a node makes of a message.
use Rattle.std.specs.Prelude.{◌≡◌, ◌⊎◌, ◌<◌, ◌≤◌, ℕ, List, Result, Ok, Err}
use Rattle.ble_fragments.specs.Joins.{Joined}
use Rattle.key_device.specs.declared.exchange.Exchange.{Exchange}
use Rattle.mdoc_outside.specs.declared.memory.Memory.{Memory}
use Rattle.session_seal.specs.Wallet.{WalletSession, WalletStart}
use Rattle.wallet_model.specs.Setup.{Setup}
use Rattle.wallet_model.specs.Stands as states
use Rattle.wallet_model.specs.Stands.{Node, NodeState}
use Rattle.wallet_core.specs.RoundView.{end_after}
use Rattle.wallet_core.specs.declared.round.Round.{Round}
use Rattle.wallet_core.specs.Rounds.{IsFirstRound, IsNextRound}
use Rattle.wallet_core.specs.declared.want_of_memory.WantOfMemory.{WantOfMemory}
use Rattle.wallet_core.specs.declared.want_of_memory.WantOfMemory.TheVariants.{Back, Spent}
use Rattle.wallet_model.specs.Taking.{node_with}
use Rattle.wallet_core.specs.StateView.{after_state}
use Rattle.wallet_core.specs.declared.reply.Reply.{Reply}

-- a round, by the state that the message comes to
abbrev pub IsRoundOf : Setup → NodeState → List ℕ → List Exchange → List Exchange → Round → Type 0
IsRoundOf W (states.Engaged start) m old new r = IsFirstRound W start m old new (Ok r)
IsRoundOf W (states.Open session) m old new r = IsNextRound W session m old new (Ok r)
IsRoundOf W (states.Ended end) m old new r = ⊥
IsRoundOf W states.Spent m old new r = ⊥

-- what a node keeps of a round, and replies
pub record Settles (node : Node) (joined : Joined) (r : Round) (reply : Reply) (after : Node) : Type 0 where
  pub keeps : after ≡ node_with node (after_state r.after) joined r.places.items
  pub message : reply.message ≡ r.reply
  pub ended : reply.ended ≡ end_after r.after

-- The message was answered in a round.
pub record HasAnswered (node : Node) (m : List ℕ) (old new : List Exchange) (joined : Joined) (reply : Reply) (after : Node) : Type 0 where
  pub r : Round
  pub is_round : IsRoundOf node.setup node.state m old new r
  pub settles : Settles node joined r reply after

-- Where memory was wanting, either nothing was asked and the node is as it was, or something was asked and it is lost.
abbrev pub IsLost : Node → List Exchange → List Exchange → Node → Type 0
IsLost node old new after = ((new ≡ old) × (after ≡ node)) ⊎ (¬ (new ≡ old) × (after.state ≡ states.Spent))

abbrev pub Answers : Node → List ℕ → List Exchange → List Exchange → Joined → Result Reply Memory → Node → Type 0
Answers node m old new joined (Ok reply) after = HasAnswered node m old new joined reply after
Answers node m old new joined (Err wanting) after = IsLost node old new after

-- the state that want of memory leaves
abbrev pub first_left : WantOfMemory WalletStart → NodeState
first_left (Back start) = states.Engaged start
first_left Spent = states.Spent

abbrev pub next_left : WantOfMemory WalletSession → NodeState
next_left (Back session) = states.Open session
next_left Spent = states.Spent

-- a session that is handed back is at the place of a later message
abbrev pub IsPlaced : WantOfMemory WalletSession → Type 0
IsPlaced (Back session) = (1 < session.place) × (session.place ≤ 1000)
IsPlaced Spent = Unit {0}
