-- A round enters the places of exactly the items of its response.
use Rattle.std.proofs.Common.{◌≡◌, List, [], Some, Ok, Err, refl, subst}
use Rattle.key_device.specs.Plan.{Done, over}
use Rattle.key_device.specs.declared.exchange.Exchange.{Exchange}
use Rattle.round_model.proofs.AlikeLemmas.{in_parts}
use Rattle.session_seal.specs.Wallet.{WalletOpened}
use Rattle.wallet_model.specs.Answer.{answer}
use Rattle.wallet_model.specs.Round.{WalletRound, answered_round, ended_round, opened, round, round_of}
use Rattle.wallet_model.specs.Setup.{Setup}
use Rattle.wallet_model.proofs.Always.{some_same}
use Rattle.wallet_laws.specs.Rounds.{AreRoundsExact, ReleasesOf}
use Rattle.wallet_laws.proofs.Answers.{is_released_exactly}

of_opened : (W : Setup) (o : WalletOpened) (tape : List Exchange) (came : WalletRound) → (over (round_of W o) tape).outcome ≡ Some came → ReleasesOf W o tape came
of_opened W (Ok now) tape came is =
    let parts = in_parts (answer W now.0 now.1) (λ given. Done (answered_round now.0 given)) tape [] [] came is in
    subst (ReleasesOf W (Ok now) tape) (some_same (answered_round now.0 parts.middle) came parts.after) (record {
      given = parts.middle;
      exact = is_released_exactly W now.0 now.1 tape parts.middle parts.before;
      reply = refl;
      entries = refl;
    })
of_opened W (Err ending) tape came is = subst (ReleasesOf W (Err ending) tape) (some_same (ended_round ending) came is) refl

pub are_rounds_exact : AreRoundsExact
unfolding round
are_rounds_exact W first place message tape came is = of_opened W (opened first place message) tape came is
