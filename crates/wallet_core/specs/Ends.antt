-- How a start ended, and what its answer says of the counts of faults.
use Rattle.std.specs.Prelude.{◌≡◌, ℕ, Result, Ok, Err}
use Rattle.mdoc_outside.specs.Faults.{Rose}
use Rattle.key_device.specs.Plan.{End, Finished, OutOfWords, OutOfMemory}
use Rattle.key_device.specs.declared.device_fault.DeviceFault.{DeviceFault}
use Rattle.key_device.specs.declared.device_fault.DeviceFault.TheVariants.{Failed}
use Rattle.session_seal.specs.Wallet.{WalletStart}
use Rattle.wallet_core.specs.declared.start_fault.StartFault.{StartFault}
use Rattle.wallet_core.specs.declared.start_fault.StartFault.TheVariants.{Device, Dice, Memory}
use Rattle.wallet_core.specs.declared.started.Started.{Started}

-- of a start that came to a fault,
abbrev pub fault_end : {A : Type 0} → StartFault → End (Result A DeviceFault)
fault_end Device = Finished (Err Failed)
fault_end Dice = OutOfWords
fault_end Memory = OutOfMemory

-- and of each.
abbrev pub start_end : Result Started StartFault → End (Result WalletStart DeviceFault)
start_end (Ok s) = Finished (Ok s.state)
start_end (Err fault) = fault_end fault

-- The counts of faults of the device and of the dice, before and after a call: that of the one that failed rose, and the
-- other is the same.
abbrev pub Fails : ℕ → ℕ → ℕ → ℕ → StartFault → Type 0
Fails device device' dice dice' Device = Rose device device' × (dice' ≡ dice)
Fails device device' dice dice' Dice = (device' ≡ device) × Rose dice dice'
Fails device device' dice dice' Memory = (device' ≡ device) × (dice' ≡ dice)

abbrev pub Cause : {A : Type 0} → ℕ → ℕ → ℕ → ℕ → Result A StartFault → Type 0
Cause device device' dice dice' (Ok a) = (device' ≡ device) × (dice' ≡ dice)
Cause device device' dice dice' (Err fault) = Fails device device' dice dice' fault
