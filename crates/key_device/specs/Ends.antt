-- What a call came to, by its answer. Want of memory is no outcome.
use Rattle.std.specs.Prelude.{Option, Some, None, Result, Ok, Err}
use Rattle.mdoc_outside.specs.declared.dice_fault.DiceFault.{DiceFault}
use Rattle.mdoc_outside.specs.declared.dice_fault.DiceFault.TheVariants as dices
use Rattle.key_device.specs.Plan.{End, Finished, OutOfWords, OutOfMemory}
use Rattle.key_device.specs.declared.device_fault.DeviceFault.{DeviceFault}
use Rattle.key_device.specs.declared.device_fault.DeviceFault.TheVariants as devices

-- of a call that asks one device: the value that is seen of its answer, or that error where the device failed
abbrev pub came_to : {A B E : Type 0} → E → (A → B) → Result A DeviceFault → Option (Result B E)
came_to error view (Ok value) = Some (Ok (view value))
came_to error view (Err devices.Failed) = Some (Err error)
came_to error view (Err devices.Memory) = None

-- of a call that draws words of dice
abbrev pub dice_end : {A B : Type 0} → (A → B) → Result A DiceFault → End B
dice_end view (Ok value) = Finished (view value)
dice_end view (Err dices.Failed) = OutOfWords
dice_end view (Err dices.Memory) = OutOfMemory

-- the errors that a call answers where a device failed and for want of memory, and where dice did
abbrev pub of_device : {E : Type 0} → E → E → DeviceFault → E
of_device failed memory devices.Failed = failed
of_device failed memory devices.Memory = memory

abbrev pub of_dice : {E : Type 0} → E → E → DiceFault → E
of_dice failed memory dices.Failed = failed
of_dice failed memory dices.Memory = memory
