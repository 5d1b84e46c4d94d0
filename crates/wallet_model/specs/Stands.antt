-- What a node of the wallet keeps, and when it stands for the fragments that came.
use Rattle.std.specs.Prelude.{◌≡◌, ◌<◌, ◌+◌, ℕ, List, [], length, None, Some, Ok}
use Rattle.ble_fragments.specs.Joins.{Joined, Joins}
use Rattle.ble_fragments.specs.Whole.{whole}
use Rattle.ble_fragments.specs.declared.ending.Ending.TheVariants as lists
use Rattle.key_device.specs.Plan.{Finished, FollowsAll}
use Rattle.key_device.specs.declared.exchange.Exchange.{Exchange}
use Rattle.mdoc_outside.specs.declared.fragment.Fragment.{Fragment}
use Rattle.round_model.specs.Rounds.{end_of_rounds}
use Rattle.session_seal.specs.Wallet.{WalletSession, WalletStart}
use Rattle.session_seal.specs.declared.wallet_end.WalletEnd.{WalletEnd}
use Rattle.session_seal.specs.declared.wallet_end.WalletEnd.TheVariants.{PeerEnded}
use Rattle.wallet_model.specs.Round.{session_at}
use Rattle.wallet_model.specs.Setup.{Setup}
use Rattle.wallet_model.specs.Wallet.{Run, end_of, peer_end, released_in, replies, wallet}
use Rattle.wallet_model.specs.declared.released_at.ReleasedAt.{ReleasedAt}

-- Where a session is: before the first message, between an answer and the next message, or ended; lost where memory was
-- wanting after a question.
pub data NodeState : Type 0 where
  Engaged : WalletStart → NodeState
  Open : WalletSession → NodeState
  Ended : WalletEnd → NodeState
  Spent : NodeState

-- What a node keeps: its setup, the engagement that it announced, the state of the session, what came of a message that
-- isn't whole yet, and the places of the released items.
pub record Node : Type 0 where
  pub setup : Setup
  pub engagement : List ℕ
  pub state : NodeState
  pub joined : Joined
  pub released : List ReleasedAt

-- no message came yet
pub record AwaitsFirst (came : List Fragment) (run : Run) (start : WalletStart) (joined : Joined) : Type 0 where
  pub no_message : (whole came).messages ≡ []
  pub no_round : run.session ≡ record { agreed = None; rounds = [] }
  pub is_start : start ≡ run.start
  pub joins : Joins came joined
  pub goes_on : (whole came).ending ≡ lists.Open

-- each message so far was answered: the session is that of the first message, at the next place
pub record AwaitsNext (came : List Fragment) (run : Run) (session : WalletSession) (joined : Joined) : Type 0 where
  pub first : WalletSession
  pub text : List ℕ
  pub agreed : run.session.agreed ≡ Some (Ok (first, text))
  pub is_session : session ≡ session_at first (length (whole came).messages + 1)
  pub has_message : 0 < length (whole came).messages
  pub is_within : length (whole came).messages < 1000
  pub no_end : end_of_rounds run.session.rounds ≡ None
  pub answered : peer_end (replies run) ≡ PeerEnded
  pub joins : Joins came joined
  pub goes_on : (whole came).ending ≡ lists.Open

abbrev pub KeepsState : List Fragment → Run → NodeState → Joined → Type 0
KeepsState came run (Engaged start) joined = AwaitsFirst came run start joined
KeepsState came run (Open session) joined = AwaitsNext came run session joined
KeepsState came run (Ended end) joined = end_of run (whole came).ending ≡ Some end
KeepsState came run Spent joined = ⊥

-- A node stands for the fragments that came: since its start its device was asked exactly the definition's questions, and
-- what it keeps is what the definition gives.
pub record StandsFor (W : Setup) (words : List ℕ) (came : List Fragment) (begun talk : List Exchange) (run : Run) (node : Node) : Type 0 where
  pub setup : node.setup ≡ W
  pub follows : FollowsAll (wallet W came) begun [] [] talk [] words (Finished (Ok run))
  pub engagement : node.engagement ≡ run.start.engagement
  pub released : node.released ≡ released_in run
  pub state : KeepsState came run node.state node.joined
