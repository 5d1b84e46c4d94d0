-- What the round of a message comes to.
use Rattle.std.specs.Prelude.{◌≡◌, ◌<◌, ◌≤◌, ℕ, List, Some, None, Result, Ok, Err}
use Rattle.key_device.specs.Plan.{Follows, Plan, Done, bind}
use Rattle.key_device.specs.declared.exchange.Exchange.{Exchange}
use Rattle.session_seal.specs.Wallet.{WalletOpened, WalletSession, WalletStart, wallet_establishes, wallet_opens}
use Rattle.wallet_model.specs.Round.{WalletRound, round_of, session_at}
use Rattle.wallet_model.specs.Setup.{Setup}
use Rattle.wallet_core.specs.RoundView.{GoesOn, round_seen}
use Rattle.wallet_core.specs.declared.after_round.AfterRound.{AfterRound}
use Rattle.wallet_core.specs.declared.after_round.AfterRound.TheVariants.{Open, Ended}
use Rattle.wallet_core.specs.declared.round.Round.{Round}
use Rattle.wallet_core.specs.declared.want_of_memory.WantOfMemory.{WantOfMemory}
use Rattle.wallet_core.specs.declared.want_of_memory.WantOfMemory.TheVariants.{Back, Spent}

-- what the first message is opened to, and its round
abbrev pub first_plan : Setup → WalletStart → List ℕ → Plan (WalletOpened × WalletRound)
first_plan W start message = bind (wallet_establishes start message) (λ opened. bind (round_of W opened) (λ round. Done (opened, round)))

-- the round of a later message, which is opened by the session at its place
abbrev pub next_plan : Setup → WalletSession → List ℕ → Plan WalletRound
next_plan W session message = round_of W (wallet_opens session message)

-- After the first message a session goes on only where that was opened, at the second place.
abbrev pub GoesOnFrom : WalletOpened → AfterRound → Type 0
GoesOnFrom (Ok first) (Open next) = next ≡ session_at first.0 2
GoesOnFrom (Err ending) (Open next) = ⊥
GoesOnFrom opened (Ended end) = Unit {0}

-- a session that goes on waits for a later message, one of the thousand
abbrev pub IsWithin : AfterRound → Type 0
IsWithin (Open session) = (1 < session.place) × (session.place ≤ 1000)
IsWithin (Ended end) = Unit {0}

pub record First (W : Setup) (start : WalletStart) (message : List ℕ) (old new : List Exchange) (r : Round) : Type 0 where
  pub opened : WalletOpened
  pub follows : Follows (first_plan W start message) old new (Some (opened, round_seen r))
  pub goes_on : GoesOnFrom opened r.after

-- Where memory was wanting, either nothing was asked and the state is as it was, or something was asked.
abbrev pub IsWanting : {S A : Type 0} → Plan A → S → List Exchange → List Exchange → WantOfMemory S → Type 0
IsWanting plan state old new (Back same) = (same ≡ state) × (new ≡ old)
IsWanting plan state old new Spent = Follows plan old new None × ¬ (new ≡ old)

abbrev pub IsFirstRound : Setup → WalletStart → List ℕ → List Exchange → List Exchange → Result Round (WantOfMemory WalletStart) → Type 0
IsFirstRound W start message old new (Ok r) = First W start message old new r
IsFirstRound W start message old new (Err wanting) = IsWanting (first_plan W start message) start old new wanting

-- what a call came to that goes by a plan of a round from a session on
abbrev pub IsRound : Plan WalletRound → WalletSession → List Exchange → List Exchange → Result Round (WantOfMemory WalletSession) → Type 0
IsRound plan session old new (Ok r) = Follows plan old new (Some (round_seen r)) × GoesOn session r.after
IsRound plan session old new (Err wanting) = IsWanting plan session old new wanting

abbrev pub IsNextRound : Setup → WalletSession → List ℕ → List Exchange → List Exchange → Result Round (WantOfMemory WalletSession) → Type 0
IsNextRound W session message old new result = IsRound (next_plan W session message) session old new result
