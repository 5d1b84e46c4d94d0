-- What a run leaves, by what it saw of the outside: one record, all of whose fields share one list of answers.
use Rattle.std.specs.Prelude.{◌≡◌, ℕ, ℤ, List, [], ◌∷◌, ◌++◌, map, Option, option_map, Result, Ok, Err, ◌⊎◌}
use Rattle.mdoc_outside.specs.Cabinet.{CabinetTold, IsFound}
use Rattle.mdoc_outside.specs.Faults.{Rose}
use Rattle.mdoc_outside.specs.declared.cabinet_call.CabinetCall.{CabinetCall}
use Rattle.mdoc_outside.specs.declared.cabinet_call.CabinetCall.TheVariants.{Read, ReadFailed, Write, WriteFailed}
use Rattle.mdoc_outside.specs.declared.sink_call.SinkCall.{SinkCall}
use Rattle.mdoc_outside.specs.declared.sink_call.SinkCall.TheVariants.{Put, PutFailed}
use Rattle.mdoc_frame.specs.Asking.{AskCauses, IsGained, Sources, Talks, no_talks}
use Rattle.mdoc_frame.specs.Content.{Content}
use Rattle.mdoc_frame.specs.Outcome.{Answer, Found, Failed, FileName, Outcome, after_reads, file_content}
use Rattle.mdoc_frame.specs.World.{World, told_with}
use Rattle.mdoc_frame.specs.declared.status.Status.{Status}
use Rattle.mdoc_frame.specs.declared.status.Status.TheVariants as statuses

-- some of a list, from its front
pub record IsFront {A : Type 0} (front whole : List A) : Type 0 where
  pub rest : List A
  pub joined : whole ≡ front ++ rest

-- ---- where a run stopped

pub data Stop : Type 0 where
  -- all was done that the outcome says
  End : Stop
  -- these files were written, and then the write of one failed
  FileFailed : List (List ℕ × List ℕ) → List ℕ × List ℕ → Stop
  -- all files were written and these lines printed, and then the put of one failed
  LineFailed : List (List ℕ) → List ℕ → Stop
  -- memory was wanting after these files were written and these lines printed
  OutOfMemory : List (List ℕ × List ℕ) → List (List ℕ) → Stop

-- the status that is answered
abbrev pub status_at : Stop → Outcome → Status
status_at End outcome = outcome.status
status_at (FileFailed files file) outcome = statuses.Cabinet
status_at (LineFailed lines line) outcome = statuses.Sink
status_at (OutOfMemory files lines) outcome = statuses.Memory

-- A stop is at a place in the order of the outcome: files first, then lines.
abbrev pub IsPlace : Stop → Outcome → Type 0
IsPlace End outcome = Unit {0}
IsPlace (FileFailed files file) outcome = IsFront (files ++ file ∷ []) outcome.files
IsPlace (LineFailed lines line) outcome = IsFront (lines ++ line ∷ []) outcome.lines
IsPlace (OutOfMemory files lines) outcome = IsFront files outcome.files × IsFront lines outcome.lines × ((lines ≡ []) ⊎ (files ≡ outcome.files))

-- ---- the calls of a run

-- The reads: those up to the first that ends the run.
abbrev pub unless_refused : Result Content Status → List CabinetCall → List CabinetCall
unless_refused (Ok content) calls = calls
unless_refused (Err status) calls = []

abbrev pub read_calls : List FileName → List Answer → List CabinetCall
read_calls [] answers = []
read_calls (file ∷ files) [] = []
read_calls (file ∷ files) (Failed ∷ answers) = ReadFailed file.name ∷ []
read_calls (file ∷ files) ((Found found) ∷ answers) = Read file.name found ∷ unless_refused (file_content file found) (read_calls files answers)

-- The writes: the files of the outcome in order, with a fault a part from the front and the one that failed.
abbrev pub write : List ℕ × List ℕ → CabinetCall
write file = Write file.0 file.1

abbrev pub write_calls : Stop → Outcome → List CabinetCall
write_calls End outcome = map write outcome.files
write_calls (FileFailed files file) outcome = map write files ++ WriteFailed file.0 file.1 ∷ []
write_calls (LineFailed lines line) outcome = map write outcome.files
write_calls (OutOfMemory files lines) outcome = map write files

-- The puts: one for each line of the outcome, in order, with a fault those before it and the one that failed.
abbrev pub put_calls : Stop → Outcome → List SinkCall
put_calls End outcome = map Put outcome.lines
put_calls (FileFailed files file) outcome = []
put_calls (LineFailed lines line) outcome = map Put lines ++ PutFailed line ∷ []
put_calls (OutOfMemory files lines) outcome = map Put lines

-- ---- the clauses

-- What a cabinet that tells answered is what it holds.
abbrev pub AreHeld : Option CabinetTold → List FileName → List Answer → Type 0
AreHeld told [] answers = Unit {0}
AreHeld told (file ∷ files) [] = Unit {0}
AreHeld told (file ∷ files) (Failed ∷ answers) = Unit {0}
AreHeld told (file ∷ files) ((Found found) ∷ answers) = IsFound told file.name found × AreHeld told files answers

-- At most one count of faults rose, and which status then comes; with every other status none did. `Usage` isn't
-- answered to words that are in form.
abbrev pub Causes : Status → ℕ → ℕ → ℕ → ℕ → Type 0
Causes statuses.Usage cabinet cabinet_now sink sink_now = ⊥
Causes statuses.Cabinet cabinet cabinet_now sink sink_now = Rose cabinet cabinet_now × (sink_now ≡ sink)
Causes statuses.Sink cabinet cabinet_now sink sink_now = Rose sink sink_now × (cabinet_now ≡ cabinet)
Causes status cabinet cabinet_now sink sink_now = (cabinet_now ≡ cabinet) × (sink_now ≡ sink)

-- A run over these files and then this work: there are answers of the cabinet, by which it is the outcome.
pub record IsRun (files : List FileName) (work : List Content → Outcome) (before now : World) (status : Status) : Type 0 where
  -- what the cabinet answered, and where the run stopped
  pub answers : List Answer
  pub stop : Stop
  -- the answers are what is held, where that is told
  pub held : AreHeld before.cabinet.told files answers
  -- the status is the outcome's, or `Memory`, or that of the one object that failed, at the place where it did
  pub answer : status ≡ status_at stop (after_reads files answers work)
  pub place : IsPlace stop (after_reads files answers work)
  -- at most one count rose
  pub causes : Causes status before.cabinet.faults now.cabinet.faults before.sink.faults now.sink.faults
  -- the files are read in order up to the first that ends the run, then the outcome's files are written; nothing else is read or written
  pub written : now.cabinet.told ≡ option_map (told_with (read_calls files answers ++ write_calls stop (after_reads files answers work))) before.cabinet.told
  -- each line of the outcome is one put, in order
  pub printed : now.sink.told ≡ option_map (λ calls. calls ++ put_calls stop (after_reads files answers work)) before.sink.told

-- What is asked once the files are opened; nothing where one isn't.
abbrev pub if_asked : Result Content Status → (Content → Type 0) → Type 0 → Type 0
if_asked (Ok content) next nothing = next content
if_asked (Err status) next nothing = nothing

abbrev pub AsksAfter : List FileName → List Answer → (List Content → Type 0) → Type 0 → Type 0
AsksAfter [] answers asks nothing = asks []
AsksAfter (file ∷ files) [] asks nothing = nothing
AsksAfter (file ∷ files) (Failed ∷ answers) asks nothing = nothing
AsksAfter (file ∷ files) ((Found found) ∷ answers) asks nothing =
    if_asked (file_content file found) (λ content. AsksAfter files answers (λ contents. asks (content ∷ contents)) nothing) nothing

-- each file is there, is not too long, and is in its form
abbrev pub IsOpened : FileName → Answer → Type 0
IsOpened file Failed = ⊥
IsOpened file (Found found) = (content : Content) × (file_content file found ≡ Ok content)

abbrev pub AreOpened : List FileName → List Answer → Type 0
AreOpened [] answers = Unit {0}
AreOpened (file ∷ files) [] = ⊥
AreOpened (file ∷ files) (answer ∷ answers) = IsOpened file answer × AreOpened files answers

-- no count of faults rose
pub record IsFaultless (before now : World) (from to : Sources) : Type 0 where
  pub cabinet : Rose before.cabinet.faults now.cabinet.faults → ⊥
  pub sink : Rose before.sink.faults now.sink.faults → ⊥
  pub wallet : Rose from.wallet_faults to.wallet_faults → ⊥
  pub reader : Rose from.reader_faults to.reader_faults → ⊥
  pub dice : Rose from.dice_faults to.dice_faults → ⊥
