-- What a message adds to the rounds before it.
use Rattle.std.proofs.Common.{◌≡◌, ℕ, List, [], ◌∷◌, ◌++◌, ◌+◌, length, Option, Some, sym, subst}
use Rattle.key_device.specs.Plan.{Done, bind, Follows}
use Rattle.key_device.specs.declared.exchange.Exchange.{Exchange}
use Rattle.key_device.proofs.PlanLemmas.{ended, then_more}
use Rattle.round_model.specs.RoundLaws.{later_message, with_message}
use Rattle.round_model.specs.Rounds.{end_of_rounds, unless_ended}
use Rattle.session_seal.specs.Wallet.{WalletOpened, WalletStart}
use Rattle.session_seal.specs.declared.wallet_end.WalletEnd.{WalletEnd}
use Rattle.wallet_model.specs.Round.{WalletRound, round}
use Rattle.wallet_model.specs.Setup.{Setup}
use Rattle.wallet_model.specs.Wallet.{WalletRounds}
use Rattle.wallet_model.specs.Taking.{rounds_with}

-- A message after the session ended adds nothing: a round before it has ended it.
pub over_round : (W : Setup) (start : WalletStart) (messages : List (List ℕ)) (first : List ℕ) (ms : List (List ℕ)) (m : List ℕ) (before : WalletRounds)
    (talk : List Exchange) (opened : WalletOpened)
    → messages ≡ first ∷ ms → before.agreed ≡ Some opened → (end : WalletEnd) → end_of_rounds before.rounds ≡ Some end
    → Follows (rounds_with W start messages m before) talk talk (Some (record { agreed = Some opened; rounds = before.rounds }))
over_round W start messages first ms m before talk opened are agreed end ends =
    subst (λ (list : List (List ℕ)). Follows (rounds_with W start list m before) talk talk (Some (record { agreed = Some opened; rounds = before.rounds }))) (sym are)
    (subst (λ (found : Option WalletOpened). Follows (later_message (round W) (2 + length ms) m before found) talk talk (Some (record { agreed = Some opened; rounds = before.rounds }))) (sym agreed)
    (then_more (λ (list : List WalletRound). Done (record { agreed = Some opened; rounds = list })) with_it (ended talk)))
  where
    with_it : Follows (with_message (round W opened) (2 + length ms) m before.rounds) talk talk (Some before.rounds)
    with_it =
        subst (λ (found : Option WalletEnd). Follows (unless_ended found (bind (round W opened (2 + length ms) m) (λ now. Done (before.rounds ++ now ∷ []))) (Done before.rounds)) talk talk (Some before.rounds)) (sym ends)
        (ended talk)
