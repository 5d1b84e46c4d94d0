-- How the exits of a reply follow the definition.
use Rattle.std.proofs.Common.{◌≡◌, ℕ, List, Some, Result, Ok, Err, sym, subst}
use Rattle.std.specs.Prelude.{IfOk}
use Rattle.key_device.proofs.PlanLemmas.{halted}
use Rattle.key_device.proofs.PlanStepLemmas.{mapped_came}
use Rattle.key_device.specs.Plan.{Follows}
use Rattle.key_device.specs.PlanSteps.{mapped}
use Rattle.key_device.specs.declared.exchange.Exchange.{Exchange}
use Rattle.session_seal.specs.Wallet.{WalletSession}
use Rattle.session_seal.specs.declared.kept.Kept.{Kept}
use Rattle.wallet_model.specs.Answer.{Answer, answer}
use Rattle.wallet_model.specs.Round.{WalletRound, answered_round}
use Rattle.wallet_model.specs.Setup.{Setup}
use Rattle.wallet_core.specs.RoundView.{round_came, round_seen}
use Rattle.wallet_core.specs.declared.round.Round.{Round}

-- the text was answered, and the answer sealed, or memory was wanting to seal it
pub sealed : (W : Setup) (session : WalletSession) (text : List ℕ) {old new : List Exchange} (a : Answer) (result : Result Round (Kept WalletSession))
    → Follows (answer W session text) old new (Some a) → IfOk result (λ r. round_seen r ≡ answered_round session a)
    → Follows (mapped (answered_round session) (answer W session text)) old new (round_came result)
sealed W session text {old} {new} a (Ok r) follows is =
    subst (λ (round : WalletRound). Follows (mapped (answered_round session) (answer W session text)) old new (Some round)) (sym is)
    (mapped_came (answered_round session) follows)
sealed W session text a (Err kept) follows is = halted (mapped_came (answered_round session) follows)
