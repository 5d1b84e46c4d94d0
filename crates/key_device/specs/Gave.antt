-- That what was told was given by the device that was handed in.
use Rattle.std.specs.Prelude.{◌≡◌, ◌≤◌, ◌||◌, ℕ, List, [], ◌∷◌, ◌++◌, Bool, true, false, Option, Some, None}
use Rattle.mdoc_outside.specs.Faults.{Rose}
use Rattle.key_device.specs.Recording.{talk, inner}
use Rattle.key_device.specs.Tape.{is_failed}
use Rattle.key_device.specs.declared.ask.Ask.{Ask}
use Rattle.key_device.specs.declared.exchange.Exchange.{Exchange}
use Rattle.key_device.specs.declared.recorder.Recorder.{Recorder}
use Rattle.key_device.specs.declared.told.Told.{Told}

-- the count of faults rose exactly where something failed
abbrev pub Counts : Bool → ℕ → ℕ → Type 0
Counts true before now = Rose before now × (before ≤ now)
Counts false before now = now ≡ before

-- a call of a device, from its state before to its state after: an exchange, or none for want of memory
abbrev pub Calls : {D : Type 0} → (D → Ask → Told → D → Type 0) → (D → D → Type 0) → (D → ℕ) → D → Option Exchange → D → Type 0
Calls gives unasked faults before None after = unasked before after × (faults after ≡ faults before)
Calls gives unasked faults before (Some e) after =
    gives before e.ask e.told after × Counts (is_failed e.told) (faults before) (faults after)

-- calls, one after the other
abbrev pub Runs : {D : Type 0} → (D → Ask → Told → D → Type 0) → (D → D → Type 0) → (D → ℕ) → D → List (Option Exchange) → D → Type 0
Runs gives unasked faults before [] after = after ≡ before
Runs {D} gives unasked faults before (call ∷ calls) after =
    (mid : D) × Calls gives unasked faults before call mid × Runs gives unasked faults mid calls after

-- the exchanges among calls
abbrev pub told_in : List (Option Exchange) → List Exchange
told_in [] = []
told_in (None ∷ calls) = told_in calls
told_in (Some e ∷ calls) = e ∷ told_in calls

-- What a recorder's talk gained the device that it wraps gave, from its state before to its state
-- after, whatever the call came to.
pub record Gave {D : Type 0} (gives : D → Ask → Told → D → Type 0) (unasked : D → D → Type 0) (faults : D → ℕ) (old new : Recorder D) : Type 0 where
  pub calls : List (Option Exchange)
  pub joined : talk new ≡ talk old ++ told_in calls
  pub runs : Runs gives unasked faults (inner old) calls (inner new)

-- whether an exchange was told that the device failed
abbrev pub any_failed : List Exchange → Bool
any_failed [] = false
any_failed (e ∷ es) = is_failed e.told || any_failed es

-- A law: the count of faults rose exactly where an exchange gained was told `Failed`.
abbrev pub CountsFailed : {D : Type 0} → (D → Ask → Told → D → Type 0) → (D → D → Type 0) → (D → ℕ) → Type 0
CountsFailed {D} gives unasked faults =
    (old new : Recorder D) (gained : List Exchange)
    → Gave gives unasked faults old new → talk new ≡ talk old ++ gained
    → Counts (any_failed gained) (faults (inner old)) (faults (inner new))
