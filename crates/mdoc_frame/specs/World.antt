-- The outside as a run sees it.
use Rattle.std.specs.Prelude.{ℕ, List, [], ◌∷◌, ◌++◌, Option}
use Rattle.mdoc_outside.specs.Cabinet.{CabinetTold, cabinet_after, files_after}
use Rattle.mdoc_outside.specs.Files.{Files}
use Rattle.mdoc_outside.specs.Sink.{sink_after}
use Rattle.mdoc_outside.specs.State.{State}
use Rattle.mdoc_outside.specs.declared.cabinet_call.CabinetCall.{CabinetCall}
use Rattle.mdoc_outside.specs.declared.cabinet_call.CabinetCall.TheVariants.{Read, Write}
use Rattle.mdoc_outside.specs.declared.sink_call.SinkCall.{SinkCall}
use Rattle.mdoc_outside.specs.declared.sink_call.SinkCall.TheVariants.{Put}

pub record World : Type 0 where
  pub cabinet : State CabinetTold
  pub sink : State (List SinkCall)

abbrev pub world : State CabinetTold → State (List SinkCall) → World
world cabinet sink = record { cabinet = cabinet; sink = sink }

-- after a read, a write and a put that did their work
abbrev pub after_read : List ℕ → Option (List ℕ) → World → World
after_read name found old = world (cabinet_after (Read name found) old.cabinet) old.sink

abbrev pub after_write : List ℕ × List ℕ → World → World
after_write file old = world (cabinet_after (Write file.0 file.1) old.cabinet) old.sink

abbrev pub after_put : List ℕ → State (List SinkCall) → State (List SinkCall)
after_put line old = sink_after (Put line) old

-- what a cabinet tells after these calls more
abbrev pub files_with : List CabinetCall → Files → Files
files_with [] files = files
files_with (call ∷ calls) files = files_with calls (files_after call files)

abbrev pub told_with : List CabinetCall → CabinetTold → CabinetTold
told_with calls told = record { files = files_with calls told.files; calls = told.calls ++ calls }
