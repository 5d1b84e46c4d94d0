-- What a search for the first of some faults answers.
use Rattle.std.specs.Prelude.{◌≡◌, List, Option, Result, Ok, Err}
use Rattle.mdoc_outside.specs.declared.memory.Memory.{Memory}
use Rattle.doc_store.specs.declared.first_fault.Fault.{Fault}
use Rattle.doc_store.specs.Faults.{first_fault}

-- The first of the faults, if there is one. Want of memory is free.
abbrev pub Finds : Result (Option Fault) Memory → List Fault → Type 0
Finds (Ok found) faults = found ≡ first_fault faults
Finds (Err wanting) faults = Unit {0}
