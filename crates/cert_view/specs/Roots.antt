-- A roots file: the trusted certificates, one a line.
use Rattle.std.specs.Prelude.{◌≡◌, ℕ, nat_le, if◌then◌else◌, List, length, take, Result, Ok, Err}
use Rattle.mdoc_outside.specs.Lines.{Line, file_lines, words}
use Rattle.mdoc_outside.specs.ResultSteps.{◌>>=◌, or_fault, each}
use Rattle.cert_view.specs.RootLine.{Listed, root_line}
use Rattle.cert_view.specs.declared.roots_fault.RootsFault.{RootsFault}
use Rattle.cert_view.specs.declared.roots_fault.RootsFault.TheVariants as faults

-- what a line says, or its number where it says nothing
abbrev pub line_root : Line → Result Listed RootsFault
line_root line = or_fault (faults.Line line.number) (root_line (words line.bytes))

-- at most 64 roots
abbrev pub within_limit : List Listed → Result (List Listed) RootsFault
within_limit roots = if nat_le (length roots) 64 then Ok roots else Err (faults.TooMany 65)

-- The roots that a text lists, else the first bad line, unless a 65th root stands before it. Each line that
-- is not ignored lists a root or is bad, so that the 65th of the lines decides.
abbrev pub roots_of : List ℕ → Result (List Listed) RootsFault
roots_of text = each line_root (take 65 (file_lines text)) >>= within_limit

-- the fault is the one that the definition names; want of memory may come before any answer
abbrev pub IsRootsFault : {A : Type 0} → RootsFault → Result A RootsFault → Type 0
IsRootsFault (faults.Line number) read = read ≡ Err (faults.Line number)
IsRootsFault (faults.TooMany number) read = read ≡ Err (faults.TooMany number)
IsRootsFault faults.Memory read = Unit {0}

-- What a reader answered, seen by `view`, is what the definition gives.
abbrev pub ReadsRoots : {A B : Type 0} → (A → B) → Result A RootsFault → Result B RootsFault → Type 0
ReadsRoots view (Ok value) read = read ≡ Ok (view value)
ReadsRoots view (Err fault) read = IsRootsFault fault read
