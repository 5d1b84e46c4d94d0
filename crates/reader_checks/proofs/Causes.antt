-- What a judgement's answer says of the count of faults.
use Rattle.std.proofs.Common.{◌≡◌, ◌≤◌, ℕ, Result, Ok, Err, subst, arith}
use Rattle.mdoc_outside.specs.Faults.{HasCause, Rose}
use Rattle.reader_checks.specs.declared.judge_fault.JudgeFault.{JudgeFault}
use Rattle.reader_checks.specs.declared.judge_fault.JudgeFault.TheVariants.{Device, Memory}

abbrev Judged : (A : Type 0) → Result A JudgeFault → Result A JudgeFault
Judged A result = result

not_device : (A : Type 0) → Judged A (Err Memory) ≡ Err Device → ⊥
not_device A is = cc

not_memory : (A : Type 0) → Judged A (Err Device) ≡ Err Memory → ⊥
not_memory A is = cc

no_fault : (A : Type 0) (a : A) (fault : JudgeFault) → Judged A (Ok a) ≡ Err fault → ⊥
no_fault A a fault is = cc

not_later : {before now : ℕ} → now ≡ before → before ≤ now
not_later same = omega (arith, same)

pub cause_ok : {A : Type 0} {before now : ℕ} (a : A) → now ≡ before → HasCause Device Memory before now (Ok a)
cause_ok {A} a same = record { later = not_later same; rose = λ is. absurd (no_fault A a Device is); done = same; out_of_memory = λ is. same }

pub cause_memory : {A : Type 0} {before now : ℕ} → now ≡ before → HasCause {T = A} Device Memory before now (Err Memory)
cause_memory {A} same = record { later = not_later same; rose = λ is. absurd (not_device A is); done = tt; out_of_memory = λ is. same }

pub cause_device : {A : Type 0} {before now : ℕ} → before ≤ now → Rose before now → HasCause {T = A} Device Memory before now (Err Device)
cause_device {A} later rose = record { later = later; rose = λ is. rose; done = tt; out_of_memory = λ is. absurd (not_memory A is) }

-- after a part that left it
pub cause_then : {A : Type 0} {before mid now : ℕ} {result : Result A JudgeFault} → mid ≡ before → HasCause Device Memory mid now result → HasCause Device Memory before now result
cause_then {now = now} {result = result} same cause = subst (λ (n : ℕ). HasCause Device Memory n now result) same cause
