-- What the rounds of a session's messages come to.
use Rattle.std.specs.Prelude.{◌≡◌, ◌≤◌, ◌^◌, ℕ, List, [], length, Option, Some, None, Result, Ok, Err}
use Rattle.std.specs.Global.{Vec}
use Rattle.key_device.specs.Plan.{Done, Follows}
use Rattle.key_device.specs.declared.exchange.Exchange.{Exchange}
use Rattle.mdoc_outside.specs.declared.memory.Memory.{Memory}
use Rattle.round_model.specs.Rounds.{rounds}
use Rattle.session_seal.specs.Wallet.{WalletOpened, WalletSession, WalletStart}
use Rattle.wallet_model.specs.Round.{WalletRound, round, session_at}
use Rattle.wallet_model.specs.Setup.{Setup}
use Rattle.wallet_model.specs.Wallet.{wallet_session}
use Rattle.wallet_core.specs.declared.after_round.AfterRound.{AfterRound}
use Rattle.wallet_core.specs.declared.after_round.AfterRound.TheVariants.{Open, Ended}

-- a message is no longer than one that a session opens
abbrev pub IsShort : List ℕ → Type 0
IsShort m = length m ≤ 2 ^ 24

-- want of memory is no outcome
abbrev pub rounds_came : Result (Vec WalletRound) Memory → Option (List WalletRound)
rounds_came (Ok all) = Some all.items
rounds_came (Err wanting) = None

-- The rounds of messages after a round: those of the session that goes on from its place, whatever text it was opened with,
-- or none.
abbrev pub FollowAfter : Setup → AfterRound → List (List ℕ) → List Exchange → List Exchange → Option (List WalletRound) → Type 0
FollowAfter W (Open session) messages old new all =
    (first : WalletSession) (text : List ℕ)
    → session ≡ session_at first session.place → Follows (rounds (round W (Ok (first, text))) session.place messages) old new all
FollowAfter W (Ended end) messages old new all = Follows (Done []) old new all

abbrev pub AreRoundsAfter : Setup → AfterRound → List (List ℕ) → List Exchange → List Exchange → Result (Vec WalletRound) Memory → Type 0
AreRoundsAfter W after messages old new result = FollowAfter W after messages old new (rounds_came result)

-- the rounds of a session by its plan, whatever its first message was opened to
pub record AreAll (W : Setup) (start : WalletStart) (messages : List (List ℕ)) (old new : List Exchange) (all : List WalletRound) : Type 0 where
  pub agreed : Option WalletOpened
  pub follows : Follows (wallet_session W start messages) old new (Some (record { agreed = agreed; rounds = all }))

abbrev pub AreRounds : Setup → WalletStart → List (List ℕ) → List Exchange → List Exchange → Result (Vec WalletRound) Memory → Type 0
AreRounds W start messages old new (Ok all) = AreAll W start messages old new all.items
AreRounds W start messages old new (Err wanting) = Follows (wallet_session W start messages) old new None
