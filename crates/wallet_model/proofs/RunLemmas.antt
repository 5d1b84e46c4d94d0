-- The whole wallet with one message more, and with none.
use Rattle.std.proofs.Common.{◌≡◌, ℕ, List, [], ◌∷◌, ◌++◌, Some, Result, Ok, sym, ◌∙◌, ap, subst}
use Rattle.ble_fragments.specs.Whole.{whole}
use Rattle.key_device.specs.Plan.{Plan, bind, Finished, Follows, FollowsAll}
use Rattle.key_device.specs.PlanSteps.{unless_fault, ◌>>=◌}
use Rattle.key_device.specs.declared.device_fault.DeviceFault.{DeviceFault}
use Rattle.key_device.specs.declared.exchange.Exchange.{Exchange}
use Rattle.key_device.proofs.AllPlanLemmas.{all_ended, all_more, by_one}
use Rattle.key_device.proofs.PlanEquations.{bind_bind, regrouped, same_steps}
use Rattle.mdoc_outside.specs.declared.fragment.Fragment.{Fragment}
use Rattle.round_model.proofs.RoundLemmas.{is_one_message_more}
use Rattle.session_seal.specs.Wallet.{WalletOpened, WalletStart, wallet_establishes}
use Rattle.session_seal.specs.declared.wallet_end.WalletEnd.{WalletEnd}
use Rattle.wallet_model.specs.Round.{round}
use Rattle.wallet_model.specs.Taking.{rounds_with}
use Rattle.wallet_model.specs.Setup.{Setup}
use Rattle.wallet_model.specs.Wallet.{Run, WalletRounds, run_from, run_of, started, wallet, wallet_session}
use Rattle.wallet_model.specs.declared.released_at.ReleasedAt.{ReleasedAt}

abbrev pub run_with : Setup → List (List ℕ) → List ℕ → Run → Plan (Result Run DeviceFault)
run_with W messages m run = bind (rounds_with W run.start messages m run.session) (run_of run.start)

pub one_message : (W : Setup) (came now : List Fragment) (m : List ℕ) → (whole now).messages ≡ (whole came).messages ++ m ∷ []
    → wallet W now ≡ wallet W came >>= run_with W (whole came).messages m
unfolding wallet
one_message W came now m is =
    same_steps started (run_from W now) (λ start. run_from W came start >>= run_with W (whole came).messages m) from
    ∙ sym (regrouped started (run_from W came) (run_with W (whole came).messages m))
  where
    from : (start : WalletStart) → run_from W now start ≡ run_from W came start >>= run_with W (whole came).messages m
    from start =
        ap (λ (messages : List (List ℕ)). bind (wallet_session W start messages) (run_of start)) is
        ∙ ap (λ (p : Plan WalletRounds). bind p (run_of start)) (is_one_message_more (List ℕ) WalletOpened ReleasedAt WalletEnd (wallet_establishes start) (λ first. round W) (whole came).messages m)
        ∙ bind_bind (wallet_session W start (whole came).messages) (rounds_with W start (whole came).messages m) (run_of start)
        ∙ sym (bind_bind (wallet_session W start (whole came).messages) (run_of start) (unless_fault (run_with W (whole came).messages m)))

pub no_message : (W : Setup) (came now : List Fragment) → (whole now).messages ≡ (whole came).messages → wallet W now ≡ wallet W came
unfolding wallet
no_message W came now is =
    same_steps started (run_from W now) (run_from W came) (λ start. ap (λ (messages : List (List ℕ)). bind (wallet_session W start messages) (run_of start)) is)

-- a run that was followed, and what one message more asked
pub followed_more : (W : Setup) (came now : List Fragment) (m : List ℕ) (begun old new : List Exchange) (words : List ℕ) (run : Run) (rounds : WalletRounds)
    → (whole now).messages ≡ (whole came).messages ++ m ∷ []
    → FollowsAll (wallet W came) begun [] [] old [] words (Finished (Ok run))
    → Follows (rounds_with W run.start (whole came).messages m run.session) old new (Some rounds)
    → FollowsAll (wallet W now) begun [] [] new [] words (Finished (Ok (record { start = run.start; session = rounds })))
followed_more W came now m begun old new words run rounds is first second =
    subst_plan (sym (one_message W came now m is))
    (all_more (unless_fault (run_with W (whole came).messages m)) first
    (all_more (run_of run.start) (by_one [] words second) (all_ended new [] words)))
  where
    subst_plan : {p q : Plan (Result Run DeviceFault)} → p ≡ q → FollowsAll p begun [] [] new [] words (Finished (Ok (record { start = run.start; session = rounds })))
        → FollowsAll q begun [] [] new [] words (Finished (Ok (record { start = run.start; session = rounds })))
    subst_plan same follows = subst (λ (p : Plan (Result Run DeviceFault)). FollowsAll p begun [] [] new [] words (Finished (Ok (record { start = run.start; session = rounds })))) same follows

pub followed_same : (W : Setup) (came now : List Fragment) (begun talk : List Exchange) (words : List ℕ) (run : Run)
    → (whole now).messages ≡ (whole came).messages
    → FollowsAll (wallet W came) begun [] [] talk [] words (Finished (Ok run)) → FollowsAll (wallet W now) begun [] [] talk [] words (Finished (Ok run))
followed_same W came now begun talk words run is follows =
    subst (λ (p : Plan (Result Run DeviceFault)). FollowsAll p begun [] [] talk [] words (Finished (Ok run))) (sym (no_message W came now is)) follows
