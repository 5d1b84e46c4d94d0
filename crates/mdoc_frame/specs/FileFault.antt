-- What a reader of a line file answers, against its definition.
use Rattle.std.specs.Prelude.{◌≡◌, Result, Ok, Err}
use Rattle.mdoc_frame.specs.declared.file_fault.FileFault.{FileFault}
use Rattle.mdoc_frame.specs.declared.file_fault.FileFault.TheVariants.{Line, Limit, Memory}

-- the fault is the one that the definition names; want of memory may come before any answer
abbrev pub IsFileFault : {A : Type 0} → FileFault → Result A FileFault → Type 0
IsFileFault (Line number) read = read ≡ Err (Line number)
IsFileFault (Limit name number) read = read ≡ Err (Limit name number)
IsFileFault Memory read = Unit {0}

-- What a reader answered, seen by `view`, is what the definition gives.
abbrev pub ReadsFile : {A B : Type 0} → (A → B) → Result A FileFault → Result B FileFault → Type 0
ReadsFile view (Ok value) read = read ≡ Ok (view value)
ReadsFile view (Err fault) read = IsFileFault fault read
