-- What a wallet comes to, over the whole list of fragments.
use Rattle.std.specs.Prelude.{◌≡◌, ℕ, List, [], Some, None, Result, Ok, Err}
use Rattle.ble_fragments.specs.Whole.{whole}
use Rattle.ble_fragments.specs.declared.ending.Ending.{Ending}
use Rattle.key_device.specs.Plan.{Finished, Follows, FollowsAll}
use Rattle.key_device.specs.declared.exchange.Exchange.{Exchange}
use Rattle.mdoc_outside.specs.Faults.{Rose}
use Rattle.mdoc_outside.specs.declared.fragment.Fragment.{Fragment}
use Rattle.mdoc_outside.specs.declared.memory.Memory as outside
use Rattle.round_model.specs.Rounds.{end_of_rounds, entries_of, replies_of}
use Rattle.wallet_model.specs.Round.{WalletRound}
use Rattle.wallet_model.specs.Setup.{Setup}
use Rattle.wallet_model.specs.Wallet.{Run, closed, end_of, or_by_list, released_in, replies, run_from, wallet}
use Rattle.wallet_core.specs.Ends.{fault_end}
use Rattle.wallet_core.specs.declared.start_fault.StartFault.{StartFault}
use Rattle.wallet_core.specs.declared.start_fault.StartFault.TheVariants.{Device, Dice}
use Rattle.wallet_core.specs.declared.started.Started.{Started}
use Rattle.plain_wallet.specs.declared.plain_run.PlainRun.{PlainRun}

-- A run is one of the definition, of fragments that end so; then the link is closed.
pub record IsRun (run : Run) (ending : Ending) (plain : PlainRun) : Type 0 where
  pub engagement : plain.engagement ≡ run.start.engagement
  pub replies : plain.replies ≡ replies run
  pub released : plain.released ≡ released_in run
  pub end : Some plain.end ≡ end_of run (closed ending)

-- ---- the whole

-- A run of the definition was followed to its outcome.
pub record HasRun (W : Setup) (came : List Fragment) (old new : List Exchange) (dealt dealt' : List ℕ) (plain : PlainRun) : Type 0 where
  pub run : Run
  pub follows : FollowsAll (wallet W came) old [] dealt new [] dealt' (Finished (Ok run))
  pub is_run : IsRun run (whole came).ending plain

abbrev pub Runs : Setup → List Fragment → List Exchange → List Exchange → List ℕ → List ℕ → Result PlainRun StartFault → Type 0
Runs W came old new dealt dealt' (Ok plain) = HasRun W came old new dealt dealt' plain
Runs W came old new dealt dealt' (Err fault) = FollowsAll (wallet W came) old [] dealt new [] dealt' (fault_end fault)

-- The counts of faults of the device and of the dice, before and after: that of the one that failed rose. After the start no
-- dice are thrown, but the device may fail in a round.
abbrev pub Cause : ℕ → ℕ → ℕ → ℕ → Result PlainRun StartFault → Type 0
Cause device device' dice dice' (Err Device) = Rose device device' × (dice' ≡ dice)
Cause device device' dice dice' (Err Dice) = (device' ≡ device) × Rose dice dice'
Cause device device' dice dice' result = dice' ≡ dice

-- ---- a session that was started

pub record HasRounds (W : Setup) (s : Started) (came : List Fragment) (old new : List Exchange) (plain : PlainRun) : Type 0 where
  pub run : Run
  pub follows : Follows (run_from W came s.state) old new (Some (Ok run))
  pub is_run : s.engagement ≡ s.state.engagement → IsRun run (whole came).ending plain

abbrev pub RunsFrom : Setup → Started → List Fragment → List Exchange → List Exchange → Result PlainRun outside.Memory → Type 0
RunsFrom W s came old new (Ok plain) = HasRounds W s came old new plain
RunsFrom W s came old new (Err wanting) = Follows (run_from W came s.state) old new None

-- what rounds come to, where the list of fragments ends so
pub record IsRunOf (announced : List ℕ) (all : List WalletRound) (ending : Ending) (plain : PlainRun) : Type 0 where
  pub engagement : plain.engagement ≡ announced
  pub replies : plain.replies ≡ replies_of all
  pub released : plain.released ≡ entries_of all
  pub end : Some plain.end ≡ or_by_list (end_of_rounds all) (replies_of all) (closed ending)
