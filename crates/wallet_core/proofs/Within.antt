-- Where a session that goes on after a round is.
use Rattle.std.proofs.Common.{◌≡◌, ◌<◌, ◌+◌, Ok, Err, ap, arith}
use Rattle.session_seal.specs.Wallet.{WalletOpened, WalletSession}
use Rattle.wallet_core.specs.RoundView.{GoesOn}
use Rattle.wallet_core.specs.declared.after_round.AfterRound.{AfterRound}
use Rattle.wallet_core.specs.declared.after_round.AfterRound.TheVariants.{Open, Ended}
use Rattle.wallet_core.specs.Rounds.{GoesOnFrom, IsWithin}

pub within_first : (opened : WalletOpened) (after : AfterRound) → GoesOnFrom opened after → IsWithin after
within_first (Ok first) (Open next) goes =
    let place : next.place ≡ 2 = ap (λ (s : WalletSession). s.place) goes in
    (omega (arith, place), omega (arith, place))
within_first (Err ending) (Open next) goes = absurd goes
within_first (Ok first) (Ended end) goes = tt
within_first (Err ending) (Ended end) goes = tt

pub within_next : (session : WalletSession) (after : AfterRound) → 1 < session.place → GoesOn session after → IsWithin after
within_next session (Open next) later goes =
    let place : next.place ≡ session.place + 1 = ap (λ (s : WalletSession). s.place) goes.0 in
    (omega (arith, place, later), goes.1)
within_next session (Ended end) later goes = tt
