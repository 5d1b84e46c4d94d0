-- What the steps of a command leave: reading a file, writing files, printing lines. A command proves that it does these one
-- after the other; that a run then is its outcome is proved once for all commands.
use Rattle.std.specs.Prelude.{◌≡◌, ℕ, List, [], ◌∷◌, Option, Result, Ok, Err, ◌⊎◌}
use Rattle.mdoc_outside.specs.Cabinet.{CabinetTold, IsFound, cabinet_after, told_after}
use Rattle.mdoc_outside.specs.Sink.{with_call}
use Rattle.mdoc_outside.specs.State.{State, CallFails}
use Rattle.mdoc_outside.specs.declared.cabinet_call.CabinetCall.TheVariants.{Read, ReadFailed, WriteFailed}
use Rattle.mdoc_outside.specs.declared.sink_call.SinkCall.{SinkCall}
use Rattle.mdoc_outside.specs.declared.sink_call.SinkCall.TheVariants.{PutFailed}
use Rattle.mdoc_frame.specs.Asking.{AskCauses, IsGained, Sources, Talks}
use Rattle.mdoc_frame.specs.Content.{Content, form}
use Rattle.mdoc_frame.specs.Outcome.{FileName, Outcome, file_content}
use Rattle.mdoc_frame.specs.World.{World, after_put, after_read, after_write}
use Rattle.mdoc_frame.specs.declared.role.Role.{Role}
use Rattle.mdoc_frame.specs.declared.status.Status.{Status}
use Rattle.mdoc_frame.specs.declared.status.Status.TheVariants.{Cabinet, Missing, Form, Sink, Limit, Memory}

-- ---- a file

-- what a form makes of bytes; want of memory may come before any answer
abbrev pub ReadsForm : {F : Type 0} → Role → (F → Content) → List ℕ → Result F Status → Type 0
ReadsForm role content bytes (Ok value) = form role bytes ≡ Ok (content value)
ReadsForm role content bytes (Err (Form of check at)) = form role bytes ≡ Err (Form of check at)
ReadsForm role content bytes (Err (Limit limit number)) = form role bytes ≡ Err (Limit limit number)
ReadsForm role content bytes (Err Memory) = Unit {0}
ReadsForm role content bytes (Err status) = ⊥

-- a file was read, and what was found gives this
pub record Gives (file : FileName) (given : Result Content Status) (old new : State CabinetTold) : Type 0 where
  pub found : Option (List ℕ)
  pub held : IsFound old.told file.name found
  pub read : new ≡ cabinet_after (Read file.name found) old
  pub gives : file_content file found ≡ given

-- a file was read, before memory was wanting
pub record IsRead (file : FileName) (old new : State CabinetTold) : Type 0 where
  pub found : Option (List ℕ)
  pub held : IsFound old.told file.name found
  pub read : new ≡ cabinet_after (Read file.name found) old

-- Reading a file ended the run with this status.
abbrev pub ReadEnds : FileName → State CabinetTold → State CabinetTold → Status → Type 0
ReadEnds file old new Cabinet = CallFails (told_after (ReadFailed file.name)) old new
ReadEnds file old new Memory = (new ≡ old) ⊎ IsRead file old new
ReadEnds file old new (Missing role) = Gives file (Err (Missing role)) old new
ReadEnds file old new (Form role check at) = Gives file (Err (Form role check at)) old new
ReadEnds file old new (Limit limit number) = Gives file (Err (Limit limit number)) old new
ReadEnds file old new status = ⊥

-- What reading a file leaves, seen by `content`.
abbrev pub ReadsFile : {F : Type 0} → FileName → (F → Content) → State CabinetTold → State CabinetTold → Result F Status → Type 0
ReadsFile file content old new (Ok value) = Gives file (Ok (content value)) old new
ReadsFile file content old new (Err status) = ReadEnds file old new status

-- ---- lines

-- the status, or want of memory before it
abbrev pub OrMemory : Status → Status → Type 0
OrMemory Memory status = Unit {0}
OrMemory answer status = answer ≡ status

-- Printing a line ended the run with this status.
abbrev pub PutEnds : List ℕ → State (List SinkCall) → State (List SinkCall) → Status → Type 0
PutEnds line old new Sink = CallFails (with_call (PutFailed line)) old new
PutEnds line old new Memory = new ≡ old
PutEnds line old new status = ⊥

-- Lines are printed one by one, each by one put, and then the status is answered.
abbrev pub Prints : List (List ℕ) → Status → State (List SinkCall) → State (List SinkCall) → Status → Type 0
Prints [] last old new status = (new ≡ old) × OrMemory status last
Prints (line ∷ lines) last old new status = PutEnds line old new status ⊎ Prints lines last (after_put line old) new status

-- ---- files that are written

-- Writing a file ended the run with this status.
abbrev pub WriteEnds : List ℕ × List ℕ → World → World → Status → Type 0
WriteEnds file old new Cabinet = CallFails (told_after (WriteFailed file.0 file.1)) old.cabinet new.cabinet × (new.sink ≡ old.sink)
WriteEnds file old new Memory = new ≡ old
WriteEnds file old new status = ⊥

-- Files are written one by one, and then the lines are printed.
abbrev pub WritesFiles : List (List ℕ × List ℕ) → List (List ℕ) → Status → World → World → Status → Type 0
WritesFiles [] lines last old new status = (new.cabinet ≡ old.cabinet) × Prints lines last old.sink new.sink status
WritesFiles (file ∷ files) lines last old new status = WriteEnds file old new status ⊎ WritesFiles files lines last (after_write file old) new status

-- ---- a command

-- a file is opened, and the rest goes on from there with what it gives
pub record ReadsOn (file : FileName) (rest : Content → World → Type 0) (old : World) : Type 0 where
  pub found : Option (List ℕ)
  pub content : Content
  pub held : IsFound old.cabinet.told file.name found
  pub opens : file_content file found ≡ Ok content
  pub goes_on : rest content (after_read file.name found old)

-- The files are opened one by one, and then comes the rest; where one isn't opened, nothing else was done.
abbrev pub Opens : List FileName → (List Content → World → World → Status → Type 0) → Type 0 → World → World → Status → Type 0
Opens [] rest nothing old new status = rest [] old new status
Opens (file ∷ files) rest nothing old new status =
    (ReadEnds file old.cabinet new.cabinet status × (new.sink ≡ old.sink) × nothing)
    ⊎ ReadsOn file (λ content between. Opens files (λ contents. rest (content ∷ contents)) nothing between new status) old

-- The files of an outcome are written, and its lines printed.
abbrev pub Ends : Outcome → World → World → Status → Type 0
Ends outcome old new status = WritesFiles outcome.files outcome.lines outcome.status old new status

-- The work of a command: what it asked and drew, by which the rest is the outcome.
abbrev pub Works : (Talks → List Content → Outcome) → (Talks → Status → List Content → Type 0) → Sources → Sources → List Content → World → World → Status → Type 0
Works work asks from to contents old new status =
    (told : Talks) × IsGained from.talks told to.talks × asks told status contents × AskCauses status from to × Ends (work told contents) old new status

-- What a command does with its files: it opens them, and then works.
abbrev pub Does : List FileName → (Talks → List Content → Outcome) → (Talks → Status → List Content → Type 0) → Sources → Sources → World → World → Status → Type 0
Does files work asks from to old new status = Opens files (Works work asks from to) (to ≡ from) old new status
