-- How the parts of a start join, at each way in which one may end.
use Rattle.std.proofs.Common.{◌≡◌, ℕ, List, [], Option, Some, None, Result, Ok, Err, refl}
use Rattle.key_device.proofs.AllPlanLemmas.{all_cut, all_more, all_undealt, by_dice, by_one}
use Rattle.key_device.specs.Ends.{came_to, dice_end, of_device, of_dice}
use Rattle.key_device.specs.Plan.{Finished, Follows, FollowsAll}
use Rattle.key_device.specs.declared.device_fault.DeviceFault.{DeviceFault}
use Rattle.key_device.specs.declared.device_fault.DeviceFault.TheVariants as devices
use Rattle.key_device.specs.declared.exchange.Exchange.{Exchange}
use Rattle.mdoc_outside.specs.Faults.{HasCause}
use Rattle.mdoc_outside.specs.declared.dice_fault.DiceFault.{DiceFault}
use Rattle.mdoc_outside.specs.declared.dice_fault.DiceFault.TheVariants as dices
use Rattle.wallet_model.specs.Wallet.{started}
use Rattle.wallet_core.specs.Ends.{Fails, start_end}
use Rattle.wallet_core.specs.Starting.{asked_for_key, drawn_id}
use Rattle.wallet_core.specs.declared.start_fault.StartFault.TheVariants.{Device, Dice, Memory}
use Rattle.wallet_core.specs.declared.started.Started.{Started}

-- ---- the questions and the words

-- the words weren't all dealt, or memory was wanting;
pub not_drawn : (one : List Exchange) {dealt dealt' : List ℕ} (fault : DiceFault)
    → FollowsAll drawn_id [] [] dealt [] [] dealt' (dice_end {A = List ℕ} (λ id. id) (Err fault)) → FollowsAll started one [] dealt one [] dealt' (start_end (Err (of_dice Dice Memory fault)))
unfolding started drawn_id asked_for_key
not_drawn one dices.Failed drawn = all_undealt asked_for_key (by_dice one [] drawn)
not_drawn one dices.Memory drawn = all_cut asked_for_key (by_dice one [] drawn)

-- they were, and the device failed, or memory was wanting;
pub not_made : {old new : List Exchange} {dealt dealt' : List ℕ} (id : List ℕ) (fault : DeviceFault)
    → FollowsAll drawn_id [] [] dealt [] [] dealt' (Finished id) → Follows (asked_for_key id) old new (came_to devices.Failed (λ (s : Started). s.state) (Err fault))
    → FollowsAll started old [] dealt new [] dealt' (start_end (Err (of_device Device Memory fault)))
unfolding started drawn_id asked_for_key
not_made {old} {dealt' = dealt'} id devices.Failed drawn asked = all_more asked_for_key (by_dice old [] drawn) (by_one [] dealt' asked)
not_made {old} {dealt' = dealt'} id devices.Memory drawn asked = all_more asked_for_key (by_dice old [] drawn) (by_one [] dealt' asked)

-- and a key was made.
pub was_made : {old new : List Exchange} {dealt dealt' : List ℕ} (id : List ℕ) (s : Started)
    → FollowsAll drawn_id [] [] dealt [] [] dealt' (Finished id) → Follows (asked_for_key id) old new (came_to devices.Failed (λ (s : Started). s.state) (Ok s))
    → FollowsAll started old [] dealt new [] dealt' (start_end (Ok s))
unfolding started drawn_id asked_for_key
was_made {old} {dealt' = dealt'} id s drawn asked = all_more asked_for_key (by_dice old [] drawn) (by_one [] dealt' asked)

-- ---- the counts of faults

pub dice_failed : {A : Type 0} (device : ℕ) {dice dice' : ℕ} (fault : DiceFault)
    → HasCause {T = A} dices.Failed dices.Memory dice dice' (Err fault) → Fails device device dice dice' (of_dice Dice Memory fault)
dice_failed device dices.Failed cause = (refl, cause.rose refl)
dice_failed device dices.Memory cause = (refl, cause.out_of_memory refl)

pub device_failed : {A : Type 0} {device device' dice dice' : ℕ} (fault : DeviceFault) → dice' ≡ dice
    → HasCause {T = A} devices.Failed devices.Memory device device' (Err fault) → Fails device device' dice dice' (of_device Device Memory fault)
device_failed devices.Failed same cause = (cause.rose refl, same)
device_failed devices.Memory same cause = (cause.out_of_memory refl, same)
