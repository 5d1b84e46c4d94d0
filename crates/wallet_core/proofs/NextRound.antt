-- How the exits of a later round follow the definition.
use Rattle.std.proofs.Common.{◌≡◌, ℕ, List, Result, Ok, sym, subst}
use Rattle.key_device.specs.declared.exchange.Exchange.{Exchange}
use Rattle.session_seal.specs.Wallet.{WalletOpened, WalletSession, wallet_opens}
use Rattle.wallet_model.specs.Round.{round_of}
use Rattle.wallet_model.specs.Setup.{Setup}
use Rattle.wallet_core.specs.declared.round.Round.{Round}
use Rattle.wallet_core.proofs.Opened.{later_session}
use Rattle.wallet_core.specs.Rounds.{IsNextRound, IsRound}
use Rattle.wallet_core.specs.declared.want_of_memory.WantOfMemory.{WantOfMemory}

-- the text, which was read as a slice, was answered, or memory was wanting to answer it
pub next_answered : (W : Setup) (session : WalletSession) (message : List ℕ) (old new : List Exchange) (asked : WalletSession) (text slice : List ℕ) (result : Result Round (WantOfMemory WalletSession)) → slice ≡ text
    → wallet_opens session message ≡ Ok (asked, text) → IsRound (round_of W (Ok (asked, slice))) asked old new result
    → IsNextRound W session message old new result
next_answered W session message old new asked text slice result same is round =
    subst (λ (opened : WalletOpened). IsRound (round_of W opened) session old new result) (sym is)
    (subst (λ (now : WalletSession). IsRound (round_of W (Ok (asked, text))) now old new result) (later_session session message (asked, text) is)
    (subst (λ (bytes : List ℕ). IsRound (round_of W (Ok (asked, bytes))) asked old new result) same round))
