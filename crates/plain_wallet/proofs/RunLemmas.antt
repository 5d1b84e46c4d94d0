-- How a run follows the definition.
use Rattle.std.proofs.Common.{◌≡◌, ℕ, List, [], Option, None, Result, Ok, Err, ◌∙◌, ap, subst}
use Rattle.std.specs.Prelude.{IfOk}
use Rattle.ble_fragments.specs.Whole.{whole}
use Rattle.ble_fragments.specs.declared.ending.Ending.{Ending}
use Rattle.key_device.proofs.AllPlanLemmas.{all_cut, all_ended, all_more, all_undealt, by_one}
use Rattle.key_device.proofs.PlanLemmas.{cut_short, ended, halted, then_more}
use Rattle.key_device.specs.Plan.{Finished, Follows, FollowsAll}
use Rattle.key_device.specs.PlanSteps.{unless_fault}
use Rattle.key_device.specs.declared.exchange.Exchange.{Exchange}
use Rattle.mdoc_outside.specs.declared.fragment.Fragment.{Fragment}
use Rattle.mdoc_outside.specs.declared.memory.Memory.{Memory}
use Rattle.round_model.specs.Rounds.{end_of_rounds, replies_of}
use Rattle.session_seal.specs.Wallet.{WalletStart}
use Rattle.wallet_model.specs.Round.{WalletRound}
use Rattle.wallet_model.specs.Setup.{Setup}
use Rattle.wallet_model.specs.Wallet.{WalletRounds, closed, or_by_list, run_from, run_of, started, wallet, wallet_session}
use Rattle.wallet_core.specs.Ends.{Fails, start_end}
use Rattle.wallet_core.specs.declared.start_fault.StartFault.{StartFault}
use Rattle.wallet_core.specs.declared.start_fault.StartFault.TheVariants as faults
use Rattle.wallet_core.specs.declared.started.Started.{Started}
use Rattle.plain_wallet.specs.Rounds.{AreAll}
use Rattle.plain_wallet.specs.Running.{Cause, IsRunOf, Runs, RunsFrom}
use Rattle.plain_wallet.specs.declared.plain_run.PlainRun.{PlainRun}

-- ---- a session that was started

-- the messages of a list are those that were joined
by_messages : (W : Setup) (start : WalletStart) (came : List Fragment) (messages : List (List ℕ)) {old new : List Exchange} (outcome : Option WalletRounds)
    → messages ≡ (whole came).messages → Follows (wallet_session W start messages) old new outcome
    → Follows (wallet_session W start (whole came).messages) old new outcome
by_messages W start came messages {old} {new} outcome is follows =
    subst (λ (list : List (List ℕ)). Follows (wallet_session W start list) old new outcome) is follows

pub session_cut : (W : Setup) (start : WalletStart) (came : List Fragment) (messages : List (List ℕ)) {old new : List Exchange}
    → messages ≡ (whole came).messages → Follows (wallet_session W start messages) old new None
    → Follows (run_from W came start) old new None
session_cut W start came messages is follows = cut_short (run_of start) (by_messages W start came messages None is follows)

pub session_ran : (W : Setup) (s : Started) (came : List Fragment) (messages : List (List ℕ)) (ending : Ending) (all : List WalletRound) (result : Result PlainRun Memory) {old new : List Exchange}
    → messages ≡ (whole came).messages → ending ≡ (whole came).ending → AreAll W s.state messages old new all
    → IfOk result (λ plain. IsRunOf s.engagement all ending plain) → RunsFrom W s came old new result
session_ran W s came messages ending all (Ok plain) {new = new} is ends rounds gives = record {
  run = record { start = s.state; session = record { agreed = rounds.agreed; rounds = all } };
  follows = then_more (run_of s.state) (by_messages W s.state came messages _ is rounds.follows) (ended new);
  is_run = λ same. record {
    engagement = gives.engagement ∙ same;
    replies = gives.replies;
    released = gives.released;
    end = gives.end ∙ ap (λ (e : Ending). or_by_list (end_of_rounds all) (replies_of all) (closed e)) ends;
  };
}
session_ran W s came messages ending all (Err wanting) {new = new} is ends rounds gives =
    halted (then_more (run_of s.state) (by_messages W s.state came messages _ is rounds.follows) (ended new))

-- ---- the whole

-- the session was started, and its rounds followed
pub ran : (W : Setup) (came : List Fragment) (s : Started) (plain : PlainRun) {old mid new : List Exchange} {dealt dealt' : List ℕ}
    → FollowsAll started old [] dealt mid [] dealt' (Finished (Ok s.state)) → s.engagement ≡ s.state.engagement → RunsFrom W s came mid new (Ok plain)
    → Runs W came old new dealt dealt' (Ok plain)
unfolding wallet
ran W came s plain {dealt' = dealt'} asked same rounds = record {
  run = rounds.run;
  follows = all_more (unless_fault (run_from W came)) asked (by_one [] dealt' rounds.follows);
  is_run = rounds.is_run same;
}

pub ran_short : (W : Setup) (came : List Fragment) (s : Started) (wanting : Memory) {old mid new : List Exchange} {dealt dealt' : List ℕ}
    → FollowsAll started old [] dealt mid [] dealt' (Finished (Ok s.state)) → RunsFrom W s came mid new (Err wanting)
    → Runs W came old new dealt dealt' (Err faults.Memory)
unfolding wallet
ran_short W came s wanting {dealt' = dealt'} asked rounds = all_more (unless_fault (run_from W came)) asked (by_one [] dealt' rounds)

-- it wasn't started
pub not_started : (W : Setup) (came : List Fragment) (fault : StartFault) {old new : List Exchange} {dealt dealt' : List ℕ}
    → FollowsAll started old [] dealt new [] dealt' (start_end (Err fault)) → Runs W came old new dealt dealt' (Err fault)
unfolding wallet
not_started W came faults.Device {new = new} {dealt' = dealt'} asked = all_more (unless_fault (run_from W came)) asked (all_ended new [] dealt')
not_started W came faults.Dice asked = all_undealt (unless_fault (run_from W came)) asked
not_started W came faults.Memory asked = all_cut (unless_fault (run_from W came)) asked

pub fault_cause : (device device' dice dice' : ℕ) (fault : StartFault) → Fails device device' dice dice' fault → Cause device device' dice dice' (Err fault)
fault_cause device device' dice dice' faults.Device fails = fails
fault_cause device device' dice dice' faults.Dice fails = fails
fault_cause device device' dice dice' faults.Memory fails = fails.1
