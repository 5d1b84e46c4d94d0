-- What contracts see of a round.
use Rattle.std.specs.Prelude.{◌≡◌, ◌≤◌, Option, Some, None, Result, Ok, Err}
use Rattle.session_seal.specs.Wallet.{WalletSession, next_place}
use Rattle.session_seal.specs.declared.kept.Kept.{Kept}
use Rattle.session_seal.specs.declared.wallet_end.WalletEnd.{WalletEnd}
use Rattle.wallet_model.specs.Round.{WalletRound}
use Rattle.wallet_core.specs.declared.after_round.AfterRound.{AfterRound}
use Rattle.wallet_core.specs.declared.after_round.AfterRound.TheVariants.{Open, Ended}
use Rattle.wallet_core.specs.declared.round.Round.{Round}

abbrev pub end_after : AfterRound → Option WalletEnd
end_after (Open session) = None
end_after (Ended end) = Some end

abbrev pub round_seen : Round → WalletRound
round_seen r = record { reply = r.reply; entries = r.places.items; ended = end_after r.after }

-- what a call came to; want of memory is no outcome
abbrev pub round_came : {S : Type 0} → Result Round S → Option WalletRound
round_came (Ok r) = Some (round_seen r)
round_came (Err kept) = None

-- A session that goes on is at the next place, which is one of the thousand.
abbrev pub GoesOn : WalletSession → AfterRound → Type 0
GoesOn session (Open next) = (next ≡ next_place session) × (next.place ≤ 1000)
GoesOn session (Ended end) = Unit {0}

abbrev pub IsNext : {S : Type 0} → WalletSession → Result Round S → Type 0
IsNext session (Ok r) = GoesOn session r.after
IsNext session (Err kept) = Unit {0}

abbrev pub IsKept : WalletSession → Result Round (Kept WalletSession) → Type 0
IsKept session (Ok r) = Unit {0}
IsKept session (Err kept) = kept.state ≡ session
