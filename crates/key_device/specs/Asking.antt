-- What was told by the answer of a call of a key device, and when the call meets the device's relation.
use Rattle.std.specs.Prelude.{ℕ, List, Bool, true, false, Option, Some, None, Result, Ok, Err}
use Rattle.key_device.specs.declared.ask.Ask.{Ask}
use Rattle.key_device.specs.declared.made.Made.{Made}
use Rattle.key_device.specs.declared.told.Told.{Told}
use Rattle.key_device.specs.declared.told.Told.TheVariants as tells
use Rattle.key_device.specs.declared.device_fault.DeviceFault.{DeviceFault}
use Rattle.key_device.specs.declared.device_fault.DeviceFault.TheVariants.{Failed, Memory}

-- Want of memory tells nothing.
abbrev pub told_by_fresh : Result Made DeviceFault → Option Told
told_by_fresh (Ok made) = Some (tells.Made made)
told_by_fresh (Err Failed) = Some tells.Failed
told_by_fresh (Err Memory) = None

abbrev pub told_by_agree : Result (Option (List ℕ)) DeviceFault → Option Told
told_by_agree (Ok (Some secret)) = Some (tells.Secret secret)
told_by_agree (Ok None) = Some tells.Refused
told_by_agree (Err Failed) = Some tells.Failed
told_by_agree (Err Memory) = None

abbrev pub told_by_sign : Result (List ℕ) DeviceFault → Option Told
told_by_sign (Ok signature) = Some (tells.Signature signature)
told_by_sign (Err Failed) = Some tells.Failed
told_by_sign (Err Memory) = None

abbrev pub told_by_verify : Result Bool DeviceFault → Option Told
told_by_verify (Ok true) = Some tells.Yes
told_by_verify (Ok false) = Some tells.No
told_by_verify (Err Failed) = Some tells.Failed
told_by_verify (Err Memory) = None

-- A call that told something does as the device's relation says, and one that told nothing as `unasked` says.
abbrev pub Meets : {S : Type 0} → (S → Ask → Told → S → Type 0) → (S → S → Type 0) → S → Ask → Option Told → S → Type 0
Meets gives unasked before ask None after = unasked before after
Meets gives unasked before ask (Some told) after = gives before ask told after
