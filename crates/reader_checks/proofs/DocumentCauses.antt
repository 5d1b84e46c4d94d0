-- What ends the checks of a document tells when the device failed.
use Rattle.std.proofs.Common.{◌≡◌, ◌≤◌, ℕ, Result, Ok, Err, arith}
use Rattle.issuer_checks.specs.Ending.{fails}
use Rattle.issuer_checks.specs.declared.check_end.CheckEnd.{CheckEnd}
use Rattle.issuer_checks.specs.declared.check_end.CheckEnd.TheVariants.{Refused, Device, Memory}
use Rattle.key_device.specs.Gave.{Counts}
use Rattle.mdoc_outside.specs.Faults.{HasCause}
use Rattle.verdict_model.specs.declared.doc_check.DocCheck.{DocCheck}

abbrev Checked : (A : Type 0) → Result A CheckEnd → Result A CheckEnd
Checked A result = result

no_stop : (A : Type 0) (a : A) (stop : CheckEnd) → Checked A (Ok a) ≡ Err stop → ⊥
no_stop A a stop is = cc

not_later : {before now : ℕ} → now ≡ before → before ≤ now
not_later same = omega (arith, same)

refused_no_device : (A : Type 0) (check : DocCheck) → Checked A (Err (Refused check)) ≡ Err Device → ⊥
refused_no_device A check is = cc

memory_no_device : (A : Type 0) → Checked A (Err Memory) ≡ Err Device → ⊥
memory_no_device A is = cc

device_no_memory : (A : Type 0) → Checked A (Err Device) ≡ Err Memory → ⊥
device_no_memory A is = cc

pub cause_of : {A : Type 0} {before now : ℕ} (result : Result A CheckEnd) → Counts (fails result) before now → HasCause Device Memory before now result
cause_of {A} (Ok a) same = record { later = not_later same; rose = λ is. absurd (no_stop A a Device is); done = same; out_of_memory = λ is. same }
cause_of {A} (Err (Refused check)) same = record { later = not_later same; rose = λ is. absurd (refused_no_device A check is); done = tt; out_of_memory = λ is. same }
cause_of {A} (Err Device) (rose, later) = record { later = later; rose = λ is. rose; done = tt; out_of_memory = λ is. absurd (device_no_memory A is) }
cause_of {A} (Err Memory) same = record { later = not_later same; rose = λ is. absurd (memory_no_device A is); done = tt; out_of_memory = λ is. same }
