-- Steps that are done one after the other are a run by its outcome: proved once for all commands.
use Rattle.std.proofs.Common.{◌≡◌, ℕ, Bool, true, false, List, [], ◌∷◌, ◌++◌, Option, Some, None, Result, Ok, Err, ◌⊎◌, inl, inr, refl, sym, ap, subst, ◌∙◌, append_assoc}
use Rattle.std.specs.Prelude.{option_map}
use Rattle.std.proofs.lemmas.List.{append-nil}
use Rattle.mdoc_outside.specs.Cabinet.{CabinetTold, IsFound, told_after}
use Rattle.mdoc_outside.specs.Sink.{with_call}
use Rattle.mdoc_outside.specs.State.{State, CallFails}
use Rattle.mdoc_outside.specs.declared.cabinet_call.CabinetCall.{CabinetCall}
use Rattle.mdoc_outside.specs.declared.cabinet_call.CabinetCall.TheVariants.{Read, ReadFailed, Write, WriteFailed}
use Rattle.mdoc_outside.specs.declared.sink_call.SinkCall.{SinkCall}
use Rattle.mdoc_outside.specs.declared.sink_call.SinkCall.TheVariants.{Put, PutFailed}
use Rattle.doc_store.specs.Held.{Place}
use Rattle.mdoc_frame.specs.Asking.{AreSame, AskCauses, IsGained, Sources, Talks, no_talks}
use Rattle.mdoc_frame.specs.Content.{Content}
use Rattle.mdoc_frame.specs.Outcome.{Answer, Found, Failed, FileName, Outcome, after_reads, file_content, if_opened, only_status}
use Rattle.mdoc_frame.specs.Run.{AreHeld, AsksAfter, Causes, End, FileFailed, IsFront, IsPlace, IsRun, LineFailed, Stop, OutOfMemory, if_asked, put_calls, read_calls, status_at, unless_refused, write_calls}
use Rattle.mdoc_frame.specs.Steps.{Does, Gives, IsRead, OrMemory, Prints, PutEnds, ReadEnds, WriteEnds, WritesFiles}
use Rattle.mdoc_frame.specs.World.{World, after_put, after_read, after_write, files_with, told_with, world}
use Rattle.mdoc_frame.specs.declared.status.Status.{Status}
use Rattle.mdoc_frame.specs.declared.status.Status.TheVariants as statuses

-- ---- what is told, call by call

-- one call more at the front
told_more : (call : CabinetCall) (calls : List CabinetCall) (told : Option CabinetTold) →
    option_map (told_with calls) (option_map (told_after call) told) ≡ option_map (told_with (call ∷ calls)) told
told_more call calls None = refl
told_more call calls (Some told) =
    ap (λ (all : List CabinetCall). Some (record { files = files_with (call ∷ calls) told.files; calls = all })) (append_assoc told.calls (call ∷ []) calls)

told_one : (call : CabinetCall) (told : Option CabinetTold) → option_map (told_after call) told ≡ option_map (told_with (call ∷ [])) told
told_one call None = refl
told_one call (Some told) = refl

told_none : (told : Option CabinetTold) → told ≡ option_map (told_with []) told
told_none None = refl
told_none (Some told) = ap (λ (all : List CabinetCall). Some (record { files = told.files; calls = all })) (sym (append-nil told.calls))

puts_more : (call : SinkCall) (calls : List SinkCall) (told : Option (List SinkCall)) →
    option_map (λ (all : List SinkCall). all ++ calls) (option_map (with_call call) told) ≡ option_map (λ (all : List SinkCall). all ++ call ∷ calls) told
puts_more call calls None = refl
puts_more call calls (Some told) = ap Some (append_assoc told (call ∷ []) calls)

puts_none : (told : Option (List SinkCall)) → told ≡ option_map (λ (all : List SinkCall). all ++ []) told
puts_none None = refl
puts_none (Some told) = ap Some (sym (append-nil told))

-- ---- statuses

-- those that a work may tell, with which no count rises
abbrev pub is_work : Status → Bool
is_work statuses.Usage = false
is_work statuses.Cabinet = false
is_work statuses.Sink = false
is_work status = true

work-causes : (status : Status) (c0 c1 s0 s1 : ℕ) → is_work status ≡ true → c1 ≡ c0 → s1 ≡ s0 → Causes status c0 c1 s0 s1
work-causes statuses.Done c0 c1 s0 s1 work c s = (c, s)
work-causes statuses.Usage c0 c1 s0 s1 work c s = absurd cc
work-causes (statuses.Missing role) c0 c1 s0 s1 work c s = (c, s)
work-causes statuses.Cabinet c0 c1 s0 s1 work c s = absurd cc
work-causes (statuses.Form role check at) c0 c1 s0 s1 work c s = (c, s)
work-causes statuses.Sink c0 c1 s0 s1 work c s = absurd cc
work-causes statuses.Device c0 c1 s0 s1 work c s = (c, s)
work-causes statuses.Dice c0 c1 s0 s1 work c s = (c, s)
work-causes statuses.Verdict c0 c1 s0 s1 work c s = (c, s)
work-causes (statuses.Limit limit number) c0 c1 s0 s1 work c s = (c, s)
work-causes statuses.Memory c0 c1 s0 s1 work c s = (c, s)

-- ---- the work of an outcome

-- What is left once the files are opened: the work of this outcome.
pub record IsWork (outcome : Outcome) (before now : World) (status : Status) : Type 0 where
  pub stop : Stop
  pub answer : status ≡ status_at stop outcome
  pub place : IsPlace stop outcome
  pub causes : Causes status before.cabinet.faults now.cabinet.faults before.sink.faults now.sink.faults
  pub written : now.cabinet.told ≡ option_map (told_with (write_calls stop outcome)) before.cabinet.told
  pub printed : now.sink.told ≡ option_map (λ calls. calls ++ put_calls stop outcome) before.sink.told

-- nothing is the front of anything, and the only front of nothing
front-none : {A : Type 0} (whole : List A) → IsFront [] whole
front-none whole = record { rest = whole; joined = refl }

front-of_none : {A : Type 0} (front : List A) → IsFront front [] → front ≡ []
front-of_none [] h = refl
front-of_none (x ∷ front) h = let e = h.joined in absurd cc

front-more : {A : Type 0} (x : A) (front whole : List A) → IsFront front whole → IsFront (x ∷ front) (x ∷ whole)
front-more x front whole h = record { rest = h.rest; joined = ap (λ (l : List _). x ∷ l) h.joined }

-- an outcome of these files and lines
abbrev of_work : Status → List (List ℕ) → List (List ℕ × List ℕ) → List Place → Outcome
of_work last lines files released = record { status = last; lines = lines; files = files; released = released }

-- want of memory before anything was done
want_of_memory : (outcome : Outcome) (before now : World) → now ≡ before → IsWork outcome before now statuses.Memory
want_of_memory outcome before now same = record {
  stop = OutOfMemory [] [];
  answer = refl;
  place = (front-none outcome.files, front-none outcome.lines, inl refl);
  causes = (ap (λ (w : World). w.cabinet.faults) same, ap (λ (w : World). w.sink.faults) same);
  written = ap (λ (w : World). w.cabinet.told) same ∙ told_none before.cabinet.told;
  printed = ap (λ (w : World). w.sink.told) same ∙ puts_none before.sink.told;
}

-- all was done
all-done : (last : Status) (released : List Place) (before now : World) (status : Status) → is_work last ≡ true → now ≡ before → status ≡ last →
    IsWork (of_work last [] [] released) before now status
all-done last released before now status work same is = record {
  stop = End;
  answer = is;
  place = tt;
  causes = subst (λ (s : Status). Causes s before.cabinet.faults now.cabinet.faults before.sink.faults now.sink.faults) (sym is)
      (work-causes last _ _ _ _ work (ap (λ (w : World). w.cabinet.faults) same) (ap (λ (w : World). w.sink.faults) same));
  written = ap (λ (w : World). w.cabinet.told) same ∙ told_none before.cabinet.told;
  printed = ap (λ (w : World). w.sink.told) same ∙ puts_none before.sink.told;
}

last-is : (last : Status) (released : List Place) (before now : World) (status : Status) → is_work last ≡ true → now ≡ before → OrMemory status last →
    IsWork (of_work last [] [] released) before now status
last-is last released before now statuses.Done work same is = all-done last released before now statuses.Done work same is
last-is last released before now statuses.Usage work same is = all-done last released before now statuses.Usage work same is
last-is last released before now (statuses.Missing role) work same is = all-done last released before now (statuses.Missing role) work same is
last-is last released before now statuses.Cabinet work same is = all-done last released before now statuses.Cabinet work same is
last-is last released before now (statuses.Form role check at) work same is = all-done last released before now (statuses.Form role check at) work same is
last-is last released before now statuses.Sink work same is = all-done last released before now statuses.Sink work same is
last-is last released before now statuses.Device work same is = all-done last released before now statuses.Device work same is
last-is last released before now statuses.Dice work same is = all-done last released before now statuses.Dice work same is
last-is last released before now statuses.Verdict work same is = all-done last released before now statuses.Verdict work same is
last-is last released before now (statuses.Limit limit number) work same is = all-done last released before now (statuses.Limit limit number) work same is
last-is last released before now statuses.Memory work same is = want_of_memory (of_work last [] [] released) before now same

-- ---- lines

put-failed : (line : List ℕ) (lines : List (List ℕ)) (last : Status) (released : List Place) (before now : World) → now.cabinet ≡ before.cabinet →
    CallFails (with_call (PutFailed line)) before.sink now.sink → IsWork (of_work last (line ∷ lines) [] released) before now statuses.Sink
put-failed line lines last released before now same failed = record {
  stop = LineFailed [] line;
  answer = refl;
  place = record { rest = lines; joined = refl };
  causes = (failed.rose, ap (λ (s : State CabinetTold). s.faults) same);
  written = ap (λ (s : State CabinetTold). s.told) same ∙ told_none before.cabinet.told;
  printed = failed.told;
}

put-ends : (line : List ℕ) (lines : List (List ℕ)) (last : Status) (released : List Place) (before now : World) (status : Status) → now.cabinet ≡ before.cabinet →
    PutEnds line before.sink now.sink status → IsWork (of_work last (line ∷ lines) [] released) before now status
put-ends line lines last released before now statuses.Sink same ends = put-failed line lines last released before now same ends
put-ends line lines last released before now statuses.Memory same ends =
    want_of_memory (of_work last (line ∷ lines) [] released) before now (ap (λ (c : State CabinetTold). world c now.sink) same ∙ ap (λ (s : State (List SinkCall)). world before.cabinet s) ends)
put-ends line lines last released before now statuses.Done same ends = absurd ends
put-ends line lines last released before now statuses.Usage same ends = absurd ends
put-ends line lines last released before now (statuses.Missing role) same ends = absurd ends
put-ends line lines last released before now statuses.Cabinet same ends = absurd ends
put-ends line lines last released before now statuses.Device same ends = absurd ends
put-ends line lines last released before now statuses.Dice same ends = absurd ends
put-ends line lines last released before now statuses.Verdict same ends = absurd ends
put-ends line lines last released before now (statuses.Form role check at) same ends = absurd ends
put-ends line lines last released before now (statuses.Limit limit number) same ends = absurd ends

-- the place of a stop after one line more
line-stop : List ℕ → Stop → Stop
line-stop line End = End
line-stop line (FileFailed files file) = FileFailed files file
line-stop line (LineFailed lines failed) = LineFailed (line ∷ lines) failed
line-stop line (OutOfMemory files lines) = OutOfMemory files (line ∷ lines)

line-status : (line : List ℕ) (lines : List (List ℕ)) (last : Status) (released : List Place) (stop : Stop) →
    status_at stop (of_work last lines [] released) ≡ status_at (line-stop line stop) (of_work last (line ∷ lines) [] released)
unfolding line-stop
line-status line lines last released End = refl
line-status line lines last released (FileFailed files file) = refl
line-status line lines last released (LineFailed done failed) = refl
line-status line lines last released (OutOfMemory files done) = refl

line-place : (line : List ℕ) (lines : List (List ℕ)) (last : Status) (released : List Place) (stop : Stop) →
    IsPlace stop (of_work last lines [] released) → IsPlace (line-stop line stop) (of_work last (line ∷ lines) [] released)
unfolding line-stop
line-place line lines last released End place = tt
line-place line lines last released (FileFailed files file) place = place
line-place line lines last released (LineFailed done failed) place = front-more line (done ++ failed ∷ []) lines place
line-place line lines last released (OutOfMemory files done) place =
    (place.0, front-more line done lines place.1, inr (front-of_none files place.0))

line-writes : (line : List ℕ) (lines : List (List ℕ)) (last : Status) (released : List Place) (stop : Stop) →
    write_calls stop (of_work last lines [] released) ≡ write_calls (line-stop line stop) (of_work last (line ∷ lines) [] released)
unfolding line-stop
line-writes line lines last released End = refl
line-writes line lines last released (FileFailed files file) = refl
line-writes line lines last released (LineFailed done failed) = refl
line-writes line lines last released (OutOfMemory files done) = refl

line-puts : (line : List ℕ) (lines : List (List ℕ)) (last : Status) (released : List Place) (stop : Stop) → IsPlace stop (of_work last lines [] released) →
    Put line ∷ put_calls stop (of_work last lines [] released) ≡ put_calls (line-stop line stop) (of_work last (line ∷ lines) [] released)
unfolding line-stop
line-puts line lines last released End place = refl
line-puts line lines last released (FileFailed files file) place =
    let none = front-of_none (files ++ file ∷ []) place in absurd (not-none files file none) where
      not-none : (files : List (List ℕ × List ℕ)) (file : List ℕ × List ℕ) → files ++ file ∷ [] ≡ [] → ⊥
      not-none [] file e = cc
      not-none (first ∷ files) file e = cc
line-puts line lines last released (LineFailed done failed) place = refl
line-puts line lines last released (OutOfMemory files done) place = refl

line-more : (line : List ℕ) (lines : List (List ℕ)) (last : Status) (released : List Place) (before now : World) (status : Status) →
    IsWork (of_work last lines [] released) (world before.cabinet (after_put line before.sink)) now status →
    IsWork (of_work last (line ∷ lines) [] released) before now status
line-more line lines last released before now status rest = record {
  stop = line-stop line rest.stop;
  answer = rest.answer ∙ line-status line lines last released rest.stop;
  place = line-place line lines last released rest.stop rest.place;
  causes = rest.causes;
  written = rest.written ∙ ap (λ (calls : List CabinetCall). option_map (told_with calls) before.cabinet.told) (line-writes line lines last released rest.stop);
  printed = rest.printed ∙ puts_more (Put line) (put_calls rest.stop (of_work last lines [] released)) before.sink.told
      ∙ ap (λ (calls : List SinkCall). option_map (λ (all : List SinkCall). all ++ calls) before.sink.told) (line-puts line lines last released rest.stop rest.place);
}

prints-work : (lines : List (List ℕ)) (last : Status) (released : List Place) (before now : World) (status : Status) → is_work last ≡ true →
    now.cabinet ≡ before.cabinet → Prints lines last before.sink now.sink status → IsWork (of_work last lines [] released) before now status
prints-work [] last released before now status work same prints =
    last-is last released before now status work (ap (λ (c : State CabinetTold). world c now.sink) same ∙ ap (λ (s : State (List SinkCall)). world before.cabinet s) prints.0) prints.1
prints-work (line ∷ lines) last released before now status work same (inl ends) = put-ends line lines last released before now status same ends
prints-work (line ∷ lines) last released before now status work same (inr rest) =
    line-more line lines last released before now status
    (prints-work lines last released (world before.cabinet (after_put line before.sink)) now status work same rest)

-- ---- files that are written

write-failed : (file : List ℕ × List ℕ) (files : List (List ℕ × List ℕ)) (lines : List (List ℕ)) (last : Status) (released : List Place) (before now : World) →
    CallFails (told_after (WriteFailed file.0 file.1)) before.cabinet now.cabinet → now.sink ≡ before.sink →
    IsWork (of_work last lines (file ∷ files) released) before now statuses.Cabinet
write-failed file files lines last released before now failed same = record {
  stop = FileFailed [] file;
  answer = refl;
  place = record { rest = files; joined = refl };
  causes = (failed.rose, ap (λ (s : State (List SinkCall)). s.faults) same);
  written = failed.told ∙ told_one (WriteFailed file.0 file.1) before.cabinet.told;
  printed = ap (λ (s : State (List SinkCall)). s.told) same ∙ puts_none before.sink.told;
}

write-ends : (file : List ℕ × List ℕ) (files : List (List ℕ × List ℕ)) (lines : List (List ℕ)) (last : Status) (released : List Place) (before now : World) (status : Status) →
    WriteEnds file before now status → IsWork (of_work last lines (file ∷ files) released) before now status
write-ends file files lines last released before now statuses.Cabinet ends = write-failed file files lines last released before now ends.0 ends.1
write-ends file files lines last released before now statuses.Memory ends = want_of_memory (of_work last lines (file ∷ files) released) before now ends
write-ends file files lines last released before now statuses.Done ends = absurd ends
write-ends file files lines last released before now statuses.Usage ends = absurd ends
write-ends file files lines last released before now (statuses.Missing role) ends = absurd ends
write-ends file files lines last released before now statuses.Sink ends = absurd ends
write-ends file files lines last released before now statuses.Device ends = absurd ends
write-ends file files lines last released before now statuses.Dice ends = absurd ends
write-ends file files lines last released before now statuses.Verdict ends = absurd ends
write-ends file files lines last released before now (statuses.Form role check at) ends = absurd ends
write-ends file files lines last released before now (statuses.Limit limit number) ends = absurd ends

file-stop : List ℕ × List ℕ → Stop → Stop
file-stop file End = End
file-stop file (FileFailed files failed) = FileFailed (file ∷ files) failed
file-stop file (LineFailed lines line) = LineFailed lines line
file-stop file (OutOfMemory files lines) = OutOfMemory (file ∷ files) lines

file-status : (file : List ℕ × List ℕ) (files : List (List ℕ × List ℕ)) (lines : List (List ℕ)) (last : Status) (released : List Place) (stop : Stop) →
    status_at stop (of_work last lines files released) ≡ status_at (file-stop file stop) (of_work last lines (file ∷ files) released)
unfolding file-stop
file-status file files lines last released End = refl
file-status file files lines last released (FileFailed done failed) = refl
file-status file files lines last released (LineFailed done line) = refl
file-status file files lines last released (OutOfMemory done printed) = refl

file-place : (file : List ℕ × List ℕ) (files : List (List ℕ × List ℕ)) (lines : List (List ℕ)) (last : Status) (released : List Place) (stop : Stop) →
    IsPlace stop (of_work last lines files released) → IsPlace (file-stop file stop) (of_work last lines (file ∷ files) released)
unfolding file-stop
file-place file files lines last released End place = tt
file-place file files lines last released (FileFailed done failed) place = front-more file (done ++ failed ∷ []) files place
file-place file files lines last released (LineFailed done line) place = place
file-place file files lines last released (OutOfMemory done printed) place = (front-more file done files place.0, place.1, none-or_all place.2) where
  none-or_all : (printed ≡ []) ⊎ (done ≡ files) → (printed ≡ []) ⊎ (file ∷ done ≡ file ∷ files)
  none-or_all (inl none) = inl none
  none-or_all (inr all) = inr (ap (λ (l : List (List ℕ × List ℕ)). file ∷ l) all)

file-writes : (file : List ℕ × List ℕ) (files : List (List ℕ × List ℕ)) (lines : List (List ℕ)) (last : Status) (released : List Place) (stop : Stop) →
    Write file.0 file.1 ∷ write_calls stop (of_work last lines files released) ≡ write_calls (file-stop file stop) (of_work last lines (file ∷ files) released)
unfolding file-stop
file-writes file files lines last released End = refl
file-writes file files lines last released (FileFailed done failed) = refl
file-writes file files lines last released (LineFailed done line) = refl
file-writes file files lines last released (OutOfMemory done printed) = refl

file-puts : (file : List ℕ × List ℕ) (files : List (List ℕ × List ℕ)) (lines : List (List ℕ)) (last : Status) (released : List Place) (stop : Stop) →
    put_calls stop (of_work last lines files released) ≡ put_calls (file-stop file stop) (of_work last lines (file ∷ files) released)
unfolding file-stop
file-puts file files lines last released End = refl
file-puts file files lines last released (FileFailed done failed) = refl
file-puts file files lines last released (LineFailed done line) = refl
file-puts file files lines last released (OutOfMemory done printed) = refl

file-more : (file : List ℕ × List ℕ) (files : List (List ℕ × List ℕ)) (lines : List (List ℕ)) (last : Status) (released : List Place) (before now : World) (status : Status) →
    IsWork (of_work last lines files released) (after_write file before) now status → IsWork (of_work last lines (file ∷ files) released) before now status
file-more file files lines last released before now status rest = record {
  stop = file-stop file rest.stop;
  answer = rest.answer ∙ file-status file files lines last released rest.stop;
  place = file-place file files lines last released rest.stop rest.place;
  causes = rest.causes;
  written = rest.written ∙ told_more (Write file.0 file.1) (write_calls rest.stop (of_work last lines files released)) before.cabinet.told
      ∙ ap (λ (calls : List CabinetCall). option_map (told_with calls) before.cabinet.told) (file-writes file files lines last released rest.stop);
  printed = rest.printed ∙ ap (λ (calls : List SinkCall). option_map (λ (all : List SinkCall). all ++ calls) before.sink.told) (file-puts file files lines last released rest.stop);
}

writes-work : (files : List (List ℕ × List ℕ)) (lines : List (List ℕ)) (last : Status) (released : List Place) (before now : World) (status : Status) → is_work last ≡ true →
    WritesFiles files lines last before now status → IsWork (of_work last lines files released) before now status
writes-work [] lines last released before now status work writes = prints-work lines last released before now status work writes.0 writes.1
writes-work (file ∷ files) lines last released before now status work (inl ends) = write-ends file files lines last released before now status ends
writes-work (file ∷ files) lines last released before now status work (inr rest) =
    file-more file files lines last released before now status (writes-work files lines last released (after_write file before) now status work rest)

-- ---- files that are read

-- a run by these calls and this outcome
record IsRunBy (files : List FileName) (answers : List Answer) (calls : List CabinetCall) (outcome : Outcome) (before now : World) (status : Status) : Type 0 where
  held : AreHeld before.cabinet.told files answers
  stop : Stop
  answer : status ≡ status_at stop outcome
  place : IsPlace stop outcome
  causes : Causes status before.cabinet.faults now.cabinet.faults before.sink.faults now.sink.faults
  written : now.cabinet.told ≡ option_map (told_with (calls ++ write_calls stop outcome)) before.cabinet.told
  printed : now.sink.told ≡ option_map (λ all. all ++ put_calls stop outcome) before.sink.told

as-run : (files : List FileName) (work : List Content → Outcome) (answers : List Answer) (before now : World) (status : Status) →
    IsRunBy files answers (read_calls files answers) (after_reads files answers work) before now status → IsRun files work before now status
as-run files work answers before now status by = record {
  answers = answers;
  stop = by.stop;
  held = by.held;
  answer = by.answer;
  place = by.place;
  causes = by.causes;
  written = by.written;
  printed = by.printed;
}

as-run_by : (files : List FileName) (work : List Content → Outcome) (answers : List Answer) (calls : List CabinetCall) (outcome : Outcome) (before now : World) (status : Status) →
    read_calls files answers ≡ calls → after_reads files answers work ≡ outcome → IsRunBy files answers calls outcome before now status → IsRun files work before now status
as-run_by files work answers calls outcome before now status calls_are outcome_is by =
    as-run files work answers before now status
    (subst (λ (c : List CabinetCall). IsRunBy files answers c (after_reads files answers work) before now status) (sym calls_are)
    (subst (λ (o : Outcome). IsRunBy files answers calls o before now status) (sym outcome_is) by))

-- a read changes no file
held-before : (name : List ℕ) (found : Option (List ℕ)) (told : Option CabinetTold) (files : List FileName) (answers : List Answer) →
    AreHeld (option_map (told_after (Read name found)) told) files answers → AreHeld told files answers
held-before name found told [] answers held = tt
held-before name found told (file ∷ files) [] held = tt
held-before name found told (file ∷ files) (Failed ∷ answers) held = tt
held-before name found None (file ∷ files) ((Found other) ∷ answers) held = (held.0, held-before name found None files answers held.1)
held-before name found (Some told) (file ∷ files) ((Found other) ∷ answers) held = (held.0, held-before name found (Some told) files answers held.1)

held-nothing : (told : Option CabinetTold) (files : List FileName) → AreHeld told files []
held-nothing told [] = tt
held-nothing told (file ∷ files) = tt

none-read : (files : List FileName) → read_calls files [] ≡ []
none-read [] = refl
none-read (file ∷ files) = refl

-- no file is read after the last answer
last-read : (file : FileName) (files : List FileName) (found : Option (List ℕ)) → read_calls (file ∷ files) (Found found ∷ []) ≡ Read file.name found ∷ []
last-read file files found = ap (λ (calls : List CabinetCall). Read file.name found ∷ calls) (either (file_content file found)) where
  either : (r : Result Content Status) → unless_refused r (read_calls files []) ≡ []
  either (Ok content) = none-read files
  either (Err status) = refl

-- the cabinet failed
read-failed : (file : FileName) (files : List FileName) (work : List Content → Outcome) (before now : World) →
    CallFails (told_after (ReadFailed file.name)) before.cabinet now.cabinet → now.sink ≡ before.sink → IsRun (file ∷ files) work before now statuses.Cabinet
read-failed file files work before now failed same = record {
  answers = Failed ∷ [];
  stop = End;
  held = tt;
  answer = refl;
  place = tt;
  causes = (failed.rose, ap (λ (s : State (List SinkCall)). s.faults) same);
  written = failed.told ∙ told_one (ReadFailed file.name) before.cabinet.told;
  printed = ap (λ (s : State (List SinkCall)). s.told) same ∙ puts_none before.sink.told;
}

-- the file isn't there, is too long, or isn't in its form
read-refused : (file : FileName) (files : List FileName) (work : List Content → Outcome) (before now : World) (status : Status) → is_work status ≡ true →
    Gives file (Err status) before.cabinet now.cabinet → now.sink ≡ before.sink → IsRun (file ∷ files) work before now status
read-refused file files work before now status is gives same =
    as-run_by (file ∷ files) work (Found gives.found ∷ []) (Read file.name gives.found ∷ []) (only_status status) before now status
    (last-read file files gives.found)
    (ap (λ (r : Result Content Status). if_opened r (λ content. after_reads files [] (λ contents. work (content ∷ contents)))) gives.gives)
    (record {
      held = (gives.held, held-nothing before.cabinet.told files);
      stop = End;
      answer = refl;
      place = tt;
      causes = work-causes status _ _ _ _ is (ap (λ (s : State CabinetTold). s.faults) gives.read) (ap (λ (s : State (List SinkCall)). s.faults) same);
      written = ap (λ (s : State CabinetTold). s.told) gives.read ∙ told_one (Read file.name gives.found) before.cabinet.told;
      printed = ap (λ (s : State (List SinkCall)). s.told) same ∙ puts_none before.sink.told;
    })

-- memory was wanting once the file was read
read-wanted : (file : FileName) (files : List FileName) (work : List Content → Outcome) (before now : World) →
    IsRead file before.cabinet now.cabinet → now.sink ≡ before.sink → IsRun (file ∷ files) work before now statuses.Memory
read-wanted file files work before now read same =
    as-run_by (file ∷ files) work (Found read.found ∷ []) (Read file.name read.found ∷ []) (after_reads (file ∷ files) (Found read.found ∷ []) work) before now statuses.Memory
    (last-read file files read.found) refl
    (record {
      held = (read.held, held-nothing before.cabinet.told files);
      stop = OutOfMemory [] [];
      answer = refl;
      place = (front-none _, front-none _, inl refl);
      causes = (ap (λ (s : State CabinetTold). s.faults) read.read, ap (λ (s : State (List SinkCall)). s.faults) same);
      written = ap (λ (s : State CabinetTold). s.told) read.read ∙ told_one (Read file.name read.found) before.cabinet.told;
      printed = ap (λ (s : State (List SinkCall)). s.told) same ∙ puts_none before.sink.told;
    })

-- memory was wanting before the file was read
read-unread : (file : FileName) (files : List FileName) (work : List Content → Outcome) (before now : World) →
    now.cabinet ≡ before.cabinet → now.sink ≡ before.sink → IsRun (file ∷ files) work before now statuses.Memory
read-unread file files work before now same_cabinet same = record {
  answers = [];
  stop = End;
  held = tt;
  answer = refl;
  place = tt;
  causes = (ap (λ (s : State CabinetTold). s.faults) same_cabinet, ap (λ (s : State (List SinkCall)). s.faults) same);
  written = ap (λ (s : State CabinetTold). s.told) same_cabinet ∙ told_none before.cabinet.told;
  printed = ap (λ (s : State (List SinkCall)). s.told) same ∙ puts_none before.sink.told;
}

read-ends : (file : FileName) (files : List FileName) (work : List Content → Outcome) (before now : World) (status : Status) →
    ReadEnds file before.cabinet now.cabinet status → now.sink ≡ before.sink → IsRun (file ∷ files) work before now status
read-ends file files work before now statuses.Done ends same = absurd ends
read-ends file files work before now statuses.Usage ends same = absurd ends
read-ends file files work before now (statuses.Missing role) ends same = read-refused file files work before now (statuses.Missing role) refl ends same
read-ends file files work before now statuses.Cabinet ends same = read-failed file files work before now ends same
read-ends file files work before now (statuses.Form role check at) ends same = read-refused file files work before now (statuses.Form role check at) refl ends same
read-ends file files work before now statuses.Sink ends same = absurd ends
read-ends file files work before now statuses.Device ends same = absurd ends
read-ends file files work before now statuses.Dice ends same = absurd ends
read-ends file files work before now statuses.Verdict ends same = absurd ends
read-ends file files work before now (statuses.Limit limit number) ends same = read-refused file files work before now (statuses.Limit limit number) refl ends same
read-ends file files work before now statuses.Memory (inl unread) same = read-unread file files work before now unread same
read-ends file files work before now statuses.Memory (inr read) same = read-wanted file files work before now read same

-- a file was opened, and the rest is a run
read-more : (file : FileName) (files : List FileName) (work : List Content → Outcome) (before now : World) (status : Status) (found : Option (List ℕ)) (content : Content) →
    IsFound before.cabinet.told file.name found → file_content file found ≡ Ok content →
    IsRun files (λ contents. work (content ∷ contents)) (after_read file.name found before) now status → IsRun (file ∷ files) work before now status
read-more file files work before now status found content held is rest =
    let rest_work : List Content → Outcome = λ contents. work (content ∷ contents) in
    let calls : List CabinetCall = read_calls files rest.answers in
    as-run_by (file ∷ files) work (Found found ∷ rest.answers) (Read file.name found ∷ calls) (after_reads files rest.answers rest_work) before now status
    (ap (λ (r : Result Content Status). Read file.name found ∷ unless_refused r calls) is)
    (ap (λ (r : Result Content Status). if_opened r (λ x. after_reads files rest.answers (λ contents. work (x ∷ contents)))) is)
    (record {
      held = (held, held-before file.name found before.cabinet.told files rest.answers rest.held);
      stop = rest.stop;
      answer = rest.answer;
      place = rest.place;
      causes = rest.causes;
      written = rest.written ∙ told_more (Read file.name found) (calls ++ write_calls rest.stop (after_reads files rest.answers rest_work)) before.cabinet.told;
      printed = rest.printed;
    })

-- ---- what is asked

-- a run with what was asked in it
pub record IsRunAsking (files : List FileName) (work : Talks → List Content → Outcome) (asks : Talks → Status → List Content → Type 0)
    (from to : Sources) (before now : World) (status : Status) : Type 0 where
  pub told : Talks
  pub gained : IsGained from.talks told to.talks
  pub run : IsRun files (work told) before now status
  pub asked : AsksAfter files run.answers (asks told status) (told ≡ no_talks)
  pub asking : AskCauses status from to

pub gained-nothing : (talks : Talks) → IsGained talks no_talks talks
gained-nothing talks = record { wallet = sym (append-nil talks.wallet); reader = sym (append-nil talks.reader); words = sym (append-nil talks.words) }

pub same-sources : (from : Sources) → AreSame from from
same-sources from = record { wallet = refl; reader = refl; dice = refl }

-- where a file isn't opened no device and no dice failed
read-asking : (file : FileName) (old new : State CabinetTold) (status : Status) (from : Sources) → ReadEnds file old new status → AskCauses status from from
read-asking file old new statuses.Done from ends = absurd ends
read-asking file old new statuses.Usage from ends = absurd ends
read-asking file old new (statuses.Missing role) from ends = same-sources from
read-asking file old new statuses.Cabinet from ends = same-sources from
read-asking file old new (statuses.Form role check at) from ends = same-sources from
read-asking file old new statuses.Sink from ends = absurd ends
read-asking file old new statuses.Device from ends = absurd ends
read-asking file old new statuses.Dice from ends = absurd ends
read-asking file old new statuses.Verdict from ends = absurd ends
read-asking file old new (statuses.Limit limit number) from ends = same-sources from
read-asking file old new statuses.Memory from ends = same-sources from

-- a file that was refused
refused-asks : (file : FileName) (files : List FileName) (found : Option (List ℕ)) (status : Status) (asks : List Content → Type 0) →
    file_content file found ≡ Err status → AsksAfter (file ∷ files) (Found found ∷ []) asks (no_talks ≡ no_talks)
refused-asks file files found status asks is =
    subst (λ (r : Result Content Status). if_asked r (λ content. AsksAfter files [] (λ contents. asks (content ∷ contents)) (no_talks ≡ no_talks)) (no_talks ≡ no_talks)) (sym is) refl

none-asks : (files : List FileName) (asks : List Content → Type 0) → ((contents : List Content) → asks contents) → AsksAfter files [] asks (no_talks ≡ no_talks)
none-asks [] asks wanting = wanting []
none-asks (file ∷ files) asks wanting = refl

wanted-asks : (file : FileName) (files : List FileName) (found : Option (List ℕ)) (asks : List Content → Type 0) → ((contents : List Content) → asks contents) →
    AsksAfter (file ∷ files) (Found found ∷ []) asks (no_talks ≡ no_talks)
wanted-asks file files found asks wanting =
    elim (file_content file found) as (λ r. if_asked r (λ content. AsksAfter files [] (λ contents. asks (content ∷ contents)) (no_talks ≡ no_talks)) (no_talks ≡ no_talks)) [
      | Ok content ↦ none-asks files (λ contents. asks (content ∷ contents)) (λ contents. wanting (content ∷ contents))
      | Err status ↦ refl
    ]

read-asks : (file : FileName) (files : List FileName) (work : List Content → Outcome) (asks : Status → List Content → Type 0) (before now : World) (status : Status) →
    (ends : ReadEnds file before.cabinet now.cabinet status) (same : now.sink ≡ before.sink) → ((contents : List Content) → asks statuses.Memory contents) →
    AsksAfter (file ∷ files) (read-ends file files work before now status ends same).answers (asks status) (no_talks ≡ no_talks)
unfolding read-ends read-refused as-run_by as-run read-failed read-unread read-wanted
read-asks file files work asks before now statuses.Done ends same wanting = absurd ends
read-asks file files work asks before now statuses.Usage ends same wanting = absurd ends
read-asks file files work asks before now (statuses.Missing role) ends same wanting = refused-asks file files ends.found _ (asks (statuses.Missing role)) ends.gives
read-asks file files work asks before now statuses.Cabinet ends same wanting = refl
read-asks file files work asks before now (statuses.Form role check at) ends same wanting = refused-asks file files ends.found _ (asks (statuses.Form role check at)) ends.gives
read-asks file files work asks before now statuses.Sink ends same wanting = absurd ends
read-asks file files work asks before now statuses.Device ends same wanting = absurd ends
read-asks file files work asks before now statuses.Dice ends same wanting = absurd ends
read-asks file files work asks before now statuses.Verdict ends same wanting = absurd ends
read-asks file files work asks before now (statuses.Limit limit number) ends same wanting = refused-asks file files ends.found _ (asks (statuses.Limit limit number)) ends.gives
read-asks file files work asks before now statuses.Memory (inl unread) same wanting = refl
read-asks file files work asks before now statuses.Memory (inr read) same wanting = wanted-asks file files read.found (asks statuses.Memory) wanting

-- Steps that are done one after the other are a run, for a work that tells no fault of cabinet and sink, and that asks
-- nothing where memory is wanting before it.
pub does_run : (files : List FileName) (work : Talks → List Content → Outcome) (asks : Talks → Status → List Content → Type 0)
    (from to : Sources) (before now : World) (status : Status) →
    ((told : Talks) (contents : List Content) → is_work (work told contents).status ≡ true) →
    ((contents : List Content) → asks no_talks statuses.Memory contents) →
    Does files work asks from to before now status → IsRunAsking files work asks from to before now status
unfolding read-more as-run_by as-run
does_run [] work asks from to before now status works wanting (told, gained, asked, asking, ends) =
    let outcome = work told [] in
    let done = writes-work outcome.files outcome.lines outcome.status outcome.released before now status (works told []) ends in record {
      told = told;
      gained = gained;
      run = record {
        answers = [];
        stop = done.stop;
        held = tt;
        answer = done.answer;
        place = done.place;
        causes = done.causes;
        written = done.written;
        printed = done.printed;
      };
      asked = asked;
      asking = asking;
    }
does_run (file ∷ files) work asks from to before now status works wanting (inl ends) = record {
  told = no_talks;
  gained = subst (λ (s : Sources). IsGained from.talks no_talks s.talks) (sym ends.2) (gained-nothing from.talks);
  run = read-ends file files (work no_talks) before now status ends.0 ends.1;
  asked = read-asks file files (work no_talks) (asks no_talks) before now status ends.0 ends.1 wanting;
  asking = subst (λ (s : Sources). AskCauses status from s) (sym ends.2) (read-asking file before.cabinet now.cabinet status from ends.0);
}
does_run (file ∷ files) work asks from to before now status works wanting (inr on) =
    let rest = does_run files (λ told contents. work told (on.content ∷ contents)) (λ told s contents. asks told s (on.content ∷ contents)) from to
    (after_read file.name on.found before) now status (λ told contents. works told (on.content ∷ contents)) (λ contents. wanting (on.content ∷ contents)) on.goes_on in record {
      told = rest.told;
      gained = rest.gained;
      run = read-more file files (work rest.told) before now status on.found on.content on.held on.opens rest.run;
      asked = subst (λ (r : Result Content Status). if_asked r (λ content. AsksAfter files rest.run.answers (λ contents. asks rest.told status (content ∷ contents)) (rest.told ≡ no_talks)) (rest.told ≡ no_talks))
          (sym on.opens) rest.asked;
      asking = rest.asking;
    }
