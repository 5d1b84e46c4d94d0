-- What contracts see of a recorder.
use Rattle.std.specs.Prelude.{◌≡◌, List, [], ◌∷◌, ◌++◌, ◌⊎◌}
use Rattle.key_device.specs.declared.ask.Ask.{Ask}
use Rattle.key_device.specs.declared.exchange.Exchange.{Exchange}
use Rattle.key_device.specs.declared.recorder.Recorder.{Recorder}
use Rattle.key_device.specs.declared.told.Told.{Told}

-- what was asked and told so far
abbrev pub talk : {D : Type 0} → Recorder D → List Exchange
talk recorder = recorder.talk.items

-- the device that it asks
abbrev pub inner : {D : Type 0} → Recorder D → D
inner recorder = recorder.device

abbrev pub exchange : Ask → Told → Exchange
exchange ask told = record { ask = ask; told = told }

-- a call adds one exchange, and the device that it asks gives that
abbrev pub Records : {D : Type 0} → (D → Ask → Told → D → Type 0) → Recorder D → Ask → Told → Recorder D → Type 0
Records gives before ask told after =
    gives (inner before) ask told (inner after) × (talk after ≡ talk before ++ exchange ask told ∷ [])

-- Want of memory leaves the talk, and the device as it was or as that device's own want of memory leaves it.
abbrev pub IsSameTalk : {D : Type 0} → (D → D → Type 0) → Recorder D → Recorder D → Type 0
IsSameTalk unasked before after =
    (talk after ≡ talk before) × ((inner after ≡ inner before) ⊎ unasked (inner before) (inner after))
