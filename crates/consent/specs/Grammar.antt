-- Files of lines: each line is read by its words, and the first line outside the grammar is the bad one.
use Rattle.std.specs.Prelude.{◌≡◌, ℕ, List, Option, Result, Ok, Err}
use Rattle.mdoc_outside.specs.Lines.{Line, words}
use Rattle.mdoc_outside.specs.ResultSteps.{or_fault}
use Rattle.consent.specs.declared.rule_fault.RuleFault.{RuleFault}
use Rattle.consent.specs.declared.rule_fault.RuleFault.TheVariants as faults

-- what a line says, or its number where it says nothing
abbrev pub line_of : {A : Type 0} → (List (List ℕ) → Option A) → Line → Result A ℕ
line_of meaning line = or_fault line.number (meaning (words line.bytes))

-- a fault is the line that the definition names; want of memory may come before any answer
abbrev pub IsLineFault : {A : Type 0} → RuleFault → Result A ℕ → Type 0
IsLineFault (faults.Line number) read = read ≡ Err number
IsLineFault faults.Memory read = Unit {0}

-- What a reader of lines answered is what the definition gives.
abbrev pub ReadsLines : {A : Type 0} → Result A RuleFault → Result A ℕ → Type 0
ReadsLines (Ok value) read = read ≡ Ok value
ReadsLines (Err fault) read = IsLineFault fault read
