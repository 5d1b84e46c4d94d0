-- What a cabinet tells: its files, and its calls in order, each with its names, bytes and answer.
use Rattle.std.specs.Prelude.{◌≡◌, ◌≢◌, ℕ, List, [], ◌∷◌, ◌++◌, Option, Some, None, Result, Ok, Err}
use Rattle.mdoc_outside.specs.Files.{Files, file_in}
use Rattle.mdoc_outside.specs.State.{State, after_call, CallFails}
use Rattle.mdoc_outside.specs.declared.cabinet_call.CabinetCall.{CabinetCall}
use Rattle.mdoc_outside.specs.declared.cabinet_call.CabinetCall.TheVariants.{Read, ReadFailed, Write, WriteFailed}
use Rattle.mdoc_outside.specs.declared.cabinet_fault.CabinetFault.{CabinetFault}
use Rattle.mdoc_outside.specs.declared.cabinet_fault.CabinetFault.TheVariants.{Failed, Memory}

pub record CabinetTold : Type 0 where
  pub files : Files
  pub calls : List CabinetCall

-- the files after a call: one that was written stands before the others, so that it counts
abbrev pub files_after : CabinetCall → Files → Files
files_after (Write name bytes) files = (name, bytes) ∷ files
files_after call files = files

-- what it tells after one call more
abbrev pub told_after : CabinetCall → CabinetTold → CabinetTold
told_after call told = record { files = files_after call told.files; calls = told.calls ++ call ∷ [] }

abbrev pub cabinet_after : CabinetCall → State CabinetTold → State CabinetTold
cabinet_after call old = after_call (told_after call) old

-- What a read of a name finds in a cabinet that tells what it holds; one that doesn't tell finds anything.
abbrev pub IsFound : Option CabinetTold → List ℕ → Option (List ℕ) → Type 0
IsFound None name found = Unit {0}
IsFound (Some told) name found = found ≡ file_in told.files name

-- What a read leaves: that call alone is gained, of the file that is held; want of memory changes nothing.
abbrev pub Reads : State CabinetTold → State CabinetTold → List ℕ → Result (Option (List ℕ)) CabinetFault → Type 0
Reads old new name (Ok found) = (new ≡ cabinet_after (Read name found) old) × IsFound old.told name found
Reads old new name (Err Failed) = CallFails (told_after (ReadFailed name)) old new
Reads old new name (Err Memory) = new ≡ old

-- What a write leaves, likewise.
abbrev pub Writes : State CabinetTold → State CabinetTold → List ℕ → List ℕ → Result (Unit {0}) CabinetFault → Type 0
Writes old new name bytes (Ok u) = new ≡ cabinet_after (Write name bytes) old
Writes old new name bytes (Err Failed) = CallFails (told_after (WriteFailed name bytes)) old new
Writes old new name bytes (Err Memory) = new ≡ old

-- A law: the file that was written is found with its bytes.
abbrev pub FindsWritten : Type 0
FindsWritten = (files : Files) (name bytes : List ℕ) → file_in (files_after (Write name bytes) files) name ≡ Some bytes

-- A law: each file of another name is found as before.
abbrev pub KeepsOthers : Type 0
KeepsOthers =
    (files : Files) (name bytes other : List ℕ)
    → name ≢ other → file_in (files_after (Write name bytes) files) other ≡ file_in files other
