-- Where each status comes: laws over the outcome.
use Rattle.std.specs.Prelude.{◌≡◌, true, ℕ, ℤ, List, [], ◌∷◌, ◌++◌, map, None, option_map, Err, ◌↔◌, ◌⊎◌}
use Rattle.mdoc_outside.specs.declared.limit_name.LimitName.{LimitName}
use Rattle.mdoc_outside.specs.declared.sink_call.SinkCall.TheVariants.{Put}
use Rattle.mdoc_frame.specs.Asking.{Sources, Talks}
use Rattle.mdoc_program.specs.Commands.{outcome, work_of}
use Rattle.mdoc_program.specs.Order.{Order, files_named}
use Rattle.mdoc_frame.specs.Outcome.{Answer, Failed, FileName, Found, file_content}
use Rattle.mdoc_frame.specs.Run.{AreOpened, AsksAfter, IsOpened}
use Rattle.mdoc_program.specs.Runs.{Runs}
use Rattle.mdoc_frame.specs.World.{World}
use Rattle.mdoc_frame.specs.declared.form_check.FormCheck.{FormCheck}
use Rattle.mdoc_frame.specs.declared.role.Role.{Role}
use Rattle.mdoc_frame.specs.declared.status.Status.{Status}
use Rattle.mdoc_frame.specs.declared.status.Status.TheVariants.{Cabinet, Done, Form, Limit, Missing}

-- a fact of the first file that isn't opened, and of the answer to its read
abbrev pub AtFirst : (FileName → Answer → Type 0) → List FileName → List Answer → Type 0
AtFirst P [] answers = ⊥
AtFirst P (file ∷ files) [] = ⊥
AtFirst P (file ∷ files) (answer ∷ answers) = P file answer ⊎ (IsOpened file answer × AtFirst P files answers)

-- there is no such file
abbrev pub IsAbsent : Role → FileName → Answer → Type 0
IsAbsent role file answer = (file.role ≡ role) × (file.needed ≡ true) × (answer ≡ Found None)

-- the file is there, and is refused with this status
abbrev pub IsRefused : Status → FileName → Answer → Type 0
IsRefused status file (Found found) = file_content file found ≡ Err status
IsRefused status file Failed = ⊥

-- The law that `Missing` comes exactly for the first file that isn't opened, where the cabinet has none of its name.
abbrev pub MissingExactly : Type 0
MissingExactly = (o : Order) (clock : ℤ) (told : Talks) (answers : List Answer) (role : Role) →
    ((outcome o clock told answers).status ≡ Missing role) ↔ AtFirst (IsAbsent role) (files_named o) answers

-- The law that `Form` comes exactly for the first file that isn't opened, where that is outside its form: its first fault.
abbrev pub FormExactly : Type 0
FormExactly = (o : Order) (clock : ℤ) (told : Talks) (answers : List Answer) (role : Role) (check : FormCheck) (at : ℕ) →
    ((outcome o clock told answers).status ≡ Form role check at) ↔ AtFirst (IsRefused (Form role check at)) (files_named o) answers

-- The law that `Limit` comes exactly for the first file that isn't opened, where a limit is exceeded, and once all files
-- are opened where the work passes one.
abbrev pub LimitExactly : Type 0
LimitExactly = (o : Order) (clock : ℤ) (told : Talks) (answers : List Answer) (limit : LimitName) (number : ℕ) →
    ((outcome o clock told answers).status ≡ Limit limit number)
    ↔ (AtFirst (IsRefused (Limit limit number)) (files_named o) answers
    ⊎ AsksAfter (files_named o) answers (λ contents. (work_of o.command o.words clock told contents).status ≡ Limit limit number) ⊥)

-- The law that an outcome is `Cabinet` exactly where a read failed, once all files before it were opened.
abbrev pub CabinetExactly : Type 0
CabinetExactly = (o : Order) (clock : ℤ) (told : Talks) (answers : List Answer) →
    ((outcome o clock told answers).status ≡ Cabinet) ↔ AtFirst (λ file answer. answer ≡ Failed) (files_named o) answers

-- The law that `Done` comes only where all files were opened.
abbrev pub DoneOnlyOpened : Type 0
DoneOnlyOpened = (o : Order) (clock : ℤ) (told : Talks) (answers : List Answer) → (outcome o clock told answers).status ≡ Done → AreOpened (files_named o) answers

-- The law that with `Done` each line is printed.
abbrev pub DonePrintsAll : Type 0
DonePrintsAll = (o : Order) (clock : ℤ) (before now : World) (from to : Sources) (runs : Runs o clock before now from to Done) →
    now.sink.told ≡ option_map (λ calls. calls ++ map Put (outcome o clock runs.told runs.run.answers).lines) before.sink.told
