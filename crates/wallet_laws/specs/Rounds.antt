-- What a round releases (ISO/IEC 18013-5, 9.1.1.4).
use Rattle.std.specs.Prelude.{◌≡◌, ℕ, List, [], Some, Ok, Err}
use Rattle.key_device.specs.Plan.{over}
use Rattle.key_device.specs.declared.exchange.Exchange.{Exchange}
use Rattle.session_seal.specs.Wallet.{WalletOpened, WalletSession, wallet_seals}
use Rattle.wallet_model.specs.Answer.{Answer}
use Rattle.wallet_model.specs.Round.{WalletRound, is_last, opened, round}
use Rattle.wallet_model.specs.Setup.{Setup}
use Rattle.wallet_laws.specs.Exactly.{IsExact}

-- A round whose message was opened: its reply seals the response of an answer, and it enters exactly this one's places.
pub record IsAnswered (W : Setup) (session : WalletSession) (text : List ℕ) (tape : List Exchange) (is : WalletRound) : Type 0 where
  pub given : Answer
  pub exact : IsExact W session text tape given
  pub reply : is.reply ≡ Some (wallet_seals session given.text (is_last session.place))
  pub entries : is.entries ≡ given.places

-- A message that isn't opened releases nothing.
abbrev pub ReleasesOf : Setup → WalletOpened → List Exchange → WalletRound → Type 0
ReleasesOf W (Ok opened) tape is = IsAnswered W opened.0 opened.1 tape is
ReleasesOf W (Err ending) tape is = is.entries ≡ []

-- The law: a round enters the places of exactly the items of its response.
abbrev pub AreRoundsExact : Type 0
AreRoundsExact =
    (W : Setup) (first : WalletOpened) (place : ℕ) (message : List ℕ) (tape : List Exchange) (came : WalletRound)
    → (over (round W first place message) tape).outcome ≡ Some came → ReleasesOf W (opened first place message) tape came
