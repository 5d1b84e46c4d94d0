-- What taking one fragment more comes to.
use Rattle.std.specs.Prelude.{◌≡◌, ◌<◌, ◌+◌, ℕ, List, [], ◌∷◌, ◌++◌, length, Option, Some, None, Ok}
use Rattle.ble_fragments.specs.Joins.{Joined, Joins}
use Rattle.ble_fragments.specs.Whole.{whole}
use Rattle.ble_fragments.specs.declared.ending.Ending as lists
use Rattle.ble_fragments.specs.declared.ending.Ending.TheVariants.{Open, Peer, Bad}
use Rattle.key_device.specs.Plan.{Follows, Plan}
use Rattle.key_device.specs.declared.exchange.Exchange.{Exchange}
use Rattle.mdoc_outside.specs.declared.fragment.Fragment.{Fragment}
use Rattle.round_model.specs.RoundLaws.{session_with}
use Rattle.round_model.specs.Rounds.{end_of_rounds}
use Rattle.session_seal.specs.Wallet.{WalletOpened, WalletSession, WalletStart, wallet_establishes}
use Rattle.session_seal.specs.declared.wallet_end.WalletEnd.{WalletEnd}
use Rattle.session_seal.specs.declared.wallet_end.WalletEnd.TheVariants.{BadFragment, NoSession, PeerEnded}
use Rattle.wallet_model.specs.Round.{WalletRound, round, session_at}
use Rattle.wallet_model.specs.Setup.{Setup}
use Rattle.wallet_model.specs.Stands as states
use Rattle.wallet_model.specs.Stands.{Node, NodeState, StandsFor}
use Rattle.wallet_model.specs.Wallet.{Run, WalletRounds, end_of, replies}
use Rattle.wallet_model.specs.declared.released_at.ReleasedAt.{ReleasedAt}

-- the message of a reply, if there is one
abbrev pub in_list : Option (List ℕ) → List (List ℕ)
in_list None = []
in_list (Some message) = message ∷ []

-- A further fragment was taken: the node stands for the fragments with it, its message is the new reply of the definition,
-- if there is one, and its end is the definition's.
pub record Took (W : Setup) (words : List ℕ) (now : List Fragment) (begun talk : List Exchange) (before : Run) (node : Node)
    (message : Option (List ℕ)) (ended : Option WalletEnd) : Type 0 where
  pub run : Run
  pub stands : StandsFor W words now begun talk run node
  pub replied : replies run ≡ replies before ++ in_list message
  pub is_ended : ended ≡ end_of run (whole now).ending

-- a node in another state
abbrev pub node_with : Node → NodeState → Joined → List ReleasedAt → Node
node_with node state joined places = record { setup = node.setup; engagement = node.engagement; state = state; joined = joined; released = node.released ++ places }

-- what a message adds to the rounds before it
abbrev pub rounds_with : Setup → WalletStart → List (List ℕ) → List ℕ → WalletRounds → Plan WalletRounds
rounds_with W start messages m before = session_with (wallet_establishes start) (λ first. round W) messages m before

-- the rounds with one more
abbrev pub with_round : WalletOpened → WalletRounds → WalletRound → WalletRounds
with_round opened before r = record { agreed = Some opened; rounds = before.rounds ++ r ∷ [] }

-- how a state ends by the end of a list of fragments
abbrev pub list_end : NodeState → lists.Ending → Option WalletEnd
list_end (states.Engaged start) Peer = Some NoSession
list_end (states.Open session) Peer = Some PeerEnded
list_end (states.Engaged start) (Bad fault) = Some (BadFragment fault)
list_end (states.Open session) (Bad fault) = Some (BadFragment fault)
list_end state ending = None

-- whether a session goes on
abbrev pub IsLive : NodeState → Type 0
IsLive (states.Engaged start) = Unit {0}
IsLive (states.Open session) = Unit {0}
IsLive (states.Ended end) = ⊥
IsLive states.Spent = ⊥

-- A law: where no message came and the list goes on, the node keeps what came of the message.
abbrev pub IsQuiet : Type 0
IsQuiet =
    (W : Setup) (words : List ℕ) (came now : List Fragment) (begun talk : List Exchange) (run : Run) (node : Node) (joined : Joined)
    → StandsFor W words came begun talk run node → IsLive node.state
    → (whole now).messages ≡ (whole came).messages → (whole now).ending ≡ Open → Joins now joined
    → Took W words now begun talk run (node_with node node.state joined []) None None

-- A law: where the list ends, so does the session.
abbrev pub IsListEnd : Type 0
IsListEnd =
    (W : Setup) (words : List ℕ) (came now : List Fragment) (begun talk : List Exchange) (run : Run) (node : Node) (joined : Joined) (end : WalletEnd)
    → StandsFor W words came begun talk run node
    → (whole now).messages ≡ (whole came).messages → list_end node.state (whole now).ending ≡ Some end
    → Took W words now begun talk run (node_with node (states.Ended end) joined []) None (Some end)

-- A law: where a message came and its round ends the session,
abbrev pub IsRoundEnd : Type 0
IsRoundEnd =
    (W : Setup) (words : List ℕ) (came now : List Fragment) (m : List ℕ) (begun old new : List Exchange) (run : Run) (node : Node) (joined : Joined)
    (opened : WalletOpened) (r : WalletRound) (end : WalletEnd)
    → StandsFor W words came begun old run node → (whole now).messages ≡ (whole came).messages ++ m ∷ []
    → end_of_rounds run.session.rounds ≡ None → Follows (rounds_with W run.start (whole came).messages m run.session) old new (Some (with_round opened run.session r))
    → r.ended ≡ Some end
    → Took W words now begun new run (node_with node (states.Ended end) joined r.entries) r.reply (Some end)

-- and where it doesn't.
abbrev pub IsAnswered : Type 0
IsAnswered =
    (W : Setup) (words : List ℕ) (came now : List Fragment) (m : List ℕ) (begun old new : List Exchange) (run : Run) (node : Node) (joined : Joined)
    (first : WalletSession) (text : List ℕ) (r : WalletRound) (reply : List ℕ)
    → StandsFor W words came begun old run node → (whole now).messages ≡ (whole came).messages ++ m ∷ []
    → end_of_rounds run.session.rounds ≡ None
    → Follows (rounds_with W run.start (whole came).messages m run.session) old new (Some (with_round (Ok (first, text)) run.session r))
    → r.ended ≡ None → r.reply ≡ Some reply → length (whole came).messages + 1 < 1000 → (whole now).ending ≡ Open → Joins now joined
    → Took W words now begun new run (node_with node (states.Open (session_at first (length (whole came).messages + 2))) joined r.entries) r.reply None

-- A law: what comes after the end changes nothing.
abbrev pub IsAfterEnd : Type 0
IsAfterEnd =
    (W : Setup) (words : List ℕ) (came : List Fragment) (f : Fragment) (begun talk : List Exchange) (run : Run) (node : Node) (end : WalletEnd)
    → StandsFor W words came begun talk run node → node.state ≡ states.Ended end
    → Took W words (came ++ f ∷ []) begun talk run node None (Some end)
