-- One question, as a plan. What it comes to where the device failed is the error that it is given.
use Rattle.std.specs.Prelude.{ℕ, List, Bool, true, false, Result, Ok, Err}
use Rattle.key_device.specs.Plan.{Plan, Done, Then}
use Rattle.key_device.specs.declared.ask.Ask.TheVariants.{Fresh, Sign, Verify}
use Rattle.key_device.specs.declared.made.Made.{Made}
use Rattle.key_device.specs.declared.point.Point.{Point}
use Rattle.key_device.specs.declared.told.Told.{Told}
use Rattle.key_device.specs.declared.told.Told.TheVariants as tells

-- for a new key
abbrev pub by_fresh : {E : Type 0} → E → Told → Result Made E
by_fresh error (tells.Made made) = Ok made
by_fresh error told = Err error

abbrev pub fresh : {E : Type 0} → E → Plan (Result Made E)
fresh error = Then Fresh (λ told. Done (by_fresh error told))

-- for the signature of the key of that number over a message
abbrev pub by_sign : {E : Type 0} → E → Told → Result (List ℕ) E
by_sign error (tells.Signature signature) = Ok signature
by_sign error told = Err error

abbrev pub signed : {E : Type 0} → E → ℕ → List ℕ → Plan (Result (List ℕ) E)
signed error key message = Then (Sign key message) (λ told. Done (by_sign error told))

-- whether that is the key's signature of the message
abbrev pub by_verify : {E : Type 0} → E → Told → Result Bool E
by_verify error tells.Yes = Ok true
by_verify error tells.No = Ok false
by_verify error told = Err error

abbrev pub verified : {E : Type 0} → E → Point → List ℕ → List ℕ → Plan (Result Bool E)
verified error key message signature = Then (Verify key message signature) (λ told. Done (by_verify error told))
