-- Where each status comes.
use Rattle.std.proofs.Common.{◌≡◌, ℕ, ℤ, true, false, cond, Bool, List, [], ◌∷◌, ◌++◌, map, Option, Some, None, Result, Ok, Err, inl, inr, refl, ap, subst, ◌⊎◌, ◌∙◌}
use Rattle.std.specs.Prelude.{length, nat_le, option_map, ◌↔◌}
use Rattle.doc_store.specs.Faults.{store_fault}
use Rattle.doc_store.specs.declared.first_fault.Fault.{Fault}
use Rattle.doc_store.specs.declared.store_check.StoreCheck.{StoreCheck}
use Rattle.doc_store.specs.declared.store_check.StoreCheck.TheVariants as stores
use Rattle.mdoc_outside.specs.ResultSteps.{◌>>=◌}
use Rattle.mdoc_outside.specs.declared.limit_name.LimitName.TheVariants.{FileBytes}
use Rattle.mdoc_outside.specs.declared.sink_call.SinkCall.{SinkCall}
use Rattle.mdoc_outside.specs.declared.sink_call.SinkCall.TheVariants.{Put}
use Rattle.cert_view.specs.RootLine.{Listed}
use Rattle.cert_view.specs.Roots.{roots_of}
use Rattle.cert_view.specs.declared.roots_fault.RootsFault.{RootsFault}
use Rattle.cert_view.specs.declared.roots_fault.RootsFault.TheVariants as roots_faults
use Rattle.consent.specs.Rules.{rules_of}
use Rattle.mdoc_frame.specs.Asking.{Talks}
use Rattle.mdoc_program.specs.Commands.{outcome, work_of}
use Rattle.mdoc_frame.specs.Content.{Content, OfPackage, OfStore, StoreFile, check_status, form, content_of, or_bad_line, or_roots_fault, or_spec_fault, or_status, spec_status, store_file, without_fault}
use Rattle.mdoc_program.specs.Exactly.{AtFirst, CabinetExactly, DoneOnlyOpened, DonePrintsAll, FormExactly, IsAbsent, IsRefused, LimitExactly, MissingExactly}
use Rattle.mdoc_program.specs.Order.{Order, files_named}
use Rattle.mdoc_frame.specs.Outcome.{Answer, Failed, FileName, Found, Outcome, after_reads, content_if_absent, file_content, if_opened}
use Rattle.mdoc_frame.specs.Run.{AreOpened, AsksAfter, End, FileFailed, LineFailed, Stop, OutOfMemory, if_asked, put_calls, status_at}
use Rattle.issue_spec.specs.SpecFile.{spec_of}
use Rattle.issue_spec.specs.declared.spec_check.SpecCheck.{SpecCheck}
use Rattle.issue_spec.specs.declared.spec_check.SpecCheck.TheVariants as specs
use Rattle.issue_spec.specs.declared.spec_fault.SpecFault.{SpecFault}
use Rattle.issue_spec.specs.declared.spec_fault.SpecFault.TheVariants as spec_faults
use Rattle.issue_spec.specs.declared.spec_fields.SpecFields.{SpecFields}
use Rattle.mdoc_outside.specs.declared.limit_name.LimitName.{LimitName}
use Rattle.mdoc_frame.specs.Wishes.{wishes_of}
use Rattle.mdoc_frame.specs.declared.file_fault.FileFault.{FileFault}
use Rattle.mdoc_frame.specs.declared.file_fault.FileFault.TheVariants as faults
use Rattle.mdoc_frame.specs.declared.role.Role.{Role}
use Rattle.mdoc_frame.specs.declared.role.Role.TheVariants as roles
use Rattle.mdoc_frame.specs.declared.status.Status.{Status}
use Rattle.mdoc_frame.specs.declared.status.Status.TheVariants as statuses
use Rattle.mdoc_program.proofs.CommandLemmas.{IsEndOf, work_ends}

-- ---- the first file that isn't opened

-- the answer to the read of a file ends the run with this status
abbrev Ends : Status → FileName → Answer → Type 0
Ends status file (Found found) = file_content file found ≡ Err status
Ends status file Failed = statuses.Cabinet ≡ status

module _ (status : Status) (P : FileName → Answer → Type 0) (to : (file : FileName) (answer : Answer) → Ends status file answer → P file answer)
    (from : (file : FileName) (answer : Answer) → P file answer → Ends status file answer) (no_memory : statuses.Memory ≡ status → ⊥) where
  only : (files : List FileName) (answers : List Answer) (work : List Content → Outcome) → ((contents : List Content) → (work contents).status ≡ status → ⊥) →
      (after_reads files answers work).status ≡ status → AtFirst P files answers
  only [] answers work never is = absurd (never [] is)
  only (file ∷ files) [] work never is = absurd (no_memory is)
  only (file ∷ files) (Failed ∷ answers) work never is = inl (to file Failed is)
  only (file ∷ files) ((Found found) ∷ answers) work never is =
      elim (file_content file found) as (λ r. file_content file found ≡ r →
      (if_opened r (λ content. after_reads files answers (λ contents. work (content ∷ contents)))).status ≡ status → AtFirst P (file ∷ files) (Found found ∷ answers)) [
        | Ok content ↦ λ gives e. inr ((content, gives), only files answers (λ contents. work (content ∷ contents)) (λ contents. never (content ∷ contents)) e)
        | Err other ↦ λ gives e. inl (to file (Found found) (gives ∙ ap Err e))
      ] refl is

  there : (files : List FileName) (answers : List Answer) (work : List Content → Outcome) → AtFirst P files answers → (after_reads files answers work).status ≡ status
  there [] answers work first = absurd first
  there (file ∷ files) [] work first = absurd first
  there (file ∷ files) (Failed ∷ answers) work (inl this) = from file Failed this
  there (file ∷ files) (Failed ∷ answers) work (inr later) = absurd later.0
  there (file ∷ files) ((Found found) ∷ answers) work (inl this) =
      ap (λ (r : Result Content Status). (if_opened r (λ content. after_reads files answers (λ contents. work (content ∷ contents)))).status) (from file (Found found) this)
  there (file ∷ files) ((Found found) ∷ answers) work (inr later) =
      ap (λ (r : Result Content Status). (if_opened r (λ content. after_reads files answers (λ contents. work (content ∷ contents)))).status) later.0.1
      ∙ there files answers (λ contents. work (later.0.0 ∷ contents)) later.1

  exactly : (o : Order) (clock : ℤ) (told : Talks) (answers : List Answer) → (IsEndOf o.command status → ⊥) → ((outcome o clock told answers).status ≡ status) ↔ AtFirst P (files_named o) answers
  exactly o clock told answers no_end = (
    only (files_named o) answers (work_of o.command o.words clock told) (λ contents is. no_end (subst (IsEndOf o.command) is (work_ends o.command o.words clock told contents))),
    there (files_named o) answers (work_of o.command o.words clock told),
  )

-- ---- what is told of a file that is there: its form, or a limit

abbrev IsOfForm : Result Content Status → Type 0
IsOfForm (Ok content) = Unit {0}
IsOfForm (Err (statuses.Form role check at)) = Unit {0}
IsOfForm (Err (statuses.Limit limit number)) = Unit {0}
IsOfForm (Err statuses.Memory) = Unit {0}
IsOfForm (Err status) = ⊥

store-form : (role : Role) (content : StoreFile → Content) (found : Option Fault) (file : StoreFile) → IsOfForm (without_fault role content found file)
store-form role content None file = tt
store-form role content (Some found) file = of_check found.at found.check where
  of_check : (at : ℕ) (check : StoreCheck) → IsOfForm (Err (check_status role at check))
  of_check at (stores.Cbor kind) = tt
  of_check at (stores.Field key) = tt
  of_check at stores.Version = tt
  of_check at stores.Doubled = tt
  of_check at (stores.Item found) = tt
  of_check at (stores.Limit limit number) = tt

lines-form : {A : Type 0} (role : Role) (content : A → Content) (read : Result A FileFault) → IsOfForm (or_status role content read)
lines-form role content (Ok value) = tt
lines-form role content (Err (faults.Line number)) = tt
lines-form role content (Err (faults.Limit limit number)) = tt
lines-form role content (Err faults.Memory) = tt

rules-form : {A : Type 0} (role : Role) (content : A → Content) (read : Result A ℕ) → IsOfForm (or_bad_line role content read)
rules-form role content (Ok value) = tt
rules-form role content (Err number) = tt

spec-form : (read : Result SpecFields SpecFault) → IsOfForm (or_spec_fault read)
spec-form (Ok fields) = tt
spec-form (Err (spec_faults.Form check number)) = of_check check where
  of_check : (check : SpecCheck) → IsOfForm (Err (spec_status number check))
  of_check specs.Line = tt
  of_check (specs.Row found) = tt
  of_check (specs.Missing row) = tt
  of_check specs.Order = tt
  of_check (specs.Limit limit passed) = tt
spec-form (Err spec_faults.Memory) = tt

roots-form : (read : Result (List Listed) RootsFault) → IsOfForm (or_roots_fault read)
roots-form (Ok listed) = tt
roots-form (Err (roots_faults.Line number)) = tt
roots-form (Err (roots_faults.TooMany number)) = tt
roots-form (Err roots_faults.Memory) = tt

of-form : (role : Role) (bytes : List ℕ) → IsOfForm (form role bytes)
of-form roles.Store bytes = store-form roles.Store OfStore (store_fault bytes) (store_file bytes)
of-form roles.Package bytes = store-form roles.Package OfPackage (store_fault bytes) (store_file bytes)
of-form roles.Roots bytes = roots-form (roots_of bytes)
of-form roles.Wishes bytes = lines-form roles.Wishes _ (wishes_of bytes)
of-form roles.Rules bytes = rules-form roles.Rules _ (rules_of bytes)
of-form roles.Spec bytes = spec-form (spec_of bytes)
of-form role bytes = tt

of-file : (role : Role) (bytes : List ℕ) → IsOfForm (content_of role (Some bytes))
of-file role bytes =
    elim (nat_le (length bytes) 16777216) as (λ t. IsOfForm (cond t (Ok bytes) (Err (statuses.Limit FileBytes (length bytes))) >>= form role))
    [ true ↦ of-form role bytes | false ↦ tt ]

told-of_file : (role : Role) (bytes : List ℕ) (status : Status) → content_of role (Some bytes) ≡ Err status → IsOfForm (Err status)
told-of_file role bytes status is = subst IsOfForm is (of-file role bytes)

-- ---- the laws

to-absent : (role : Role) (file : FileName) (answer : Answer) → Ends (statuses.Missing role) file answer → IsAbsent role file answer
to-absent role file (Found None) ends = go file.needed refl ends where
  go : (needed : Bool) → file.needed ≡ needed → content_if_absent needed file.role ≡ Err (statuses.Missing role) → IsAbsent role file (Found None)
  go true is e = (cc, is, refl)
  go false is e = absurd cc
to-absent role file (Found (Some bytes)) ends = absurd (told-of_file file.role bytes (statuses.Missing role) ends)
to-absent role file Failed ends = absurd cc

from-absent : (role : Role) (file : FileName) (answer : Answer) → IsAbsent role file answer → Ends (statuses.Missing role) file answer
from-absent role file (Found None) absent = rw absent.1 (ap (λ (r : Role). Err (statuses.Missing r)) absent.0)
from-absent role file (Found (Some bytes)) absent = let e = absent.2 in absurd cc
from-absent role file Failed absent = let e = absent.2 in absurd cc

pub missing_exactly : MissingExactly
missing_exactly o clock told answers role = exactly (statuses.Missing role) (IsAbsent role) (to-absent role) (from-absent role) (λ e. cc) o clock told answers (λ h. h)

to-refused : (status : Status) → (statuses.Cabinet ≡ status → ⊥) → (file : FileName) (answer : Answer) → Ends status file answer → IsRefused status file answer
to-refused status other file (Found found) ends = ends
to-refused status other file Failed ends = absurd (other ends)

from-refused : (status : Status) (file : FileName) (answer : Answer) → IsRefused status file answer → Ends status file answer
from-refused status file (Found found) refused = refused
from-refused status file Failed refused = absurd refused

pub form_exactly : FormExactly
form_exactly o clock told answers role check at =
    exactly (statuses.Form role check at) (IsRefused (statuses.Form role check at)) (to-refused _ (λ e. cc)) (from-refused _) (λ e. cc) o clock told answers (λ h. h)

-- a limit that a file or the work passes
module _ (limit : LimitName) (number : ℕ) where
  abbrev AtWork : List FileName → List Answer → (List Content → Outcome) → Type 0
  AtWork files answers work = AsksAfter files answers (λ contents. (work contents).status ≡ statuses.Limit limit number) ⊥

  to-limit : (files : List FileName) (answers : List Answer) (work : List Content → Outcome) → (after_reads files answers work).status ≡ statuses.Limit limit number →
      AtFirst (IsRefused (statuses.Limit limit number)) files answers ⊎ AtWork files answers work
  to-limit [] answers work is = inr is
  to-limit (file ∷ files) [] work is = absurd cc
  to-limit (file ∷ files) (Failed ∷ answers) work is = absurd cc
  to-limit (file ∷ files) ((Found found) ∷ answers) work is =
      elim (file_content file found) as (λ r. file_content file found ≡ r →
      (if_opened r (λ content. after_reads files answers (λ contents. work (content ∷ contents)))).status ≡ statuses.Limit limit number →
      AtFirst (IsRefused (statuses.Limit limit number)) (file ∷ files) (Found found ∷ answers)
      ⊎ if_asked r (λ content. AtWork files answers (λ contents. work (content ∷ contents))) ⊥) [
        | Ok content ↦ λ gives e. later content gives (to-limit files answers (λ contents. work (content ∷ contents)) e)
        | Err other ↦ λ gives e. inl (inl (gives ∙ ap Err e))
      ] refl is where
        later : (content : Content) → file_content file found ≡ Ok content →
            AtFirst (IsRefused (statuses.Limit limit number)) files answers ⊎ AtWork files answers (λ contents. work (content ∷ contents)) →
            AtFirst (IsRefused (statuses.Limit limit number)) (file ∷ files) (Found found ∷ answers) ⊎ AtWork files answers (λ contents. work (content ∷ contents))
        later content gives (inl first) = inl (inr ((content, gives), first))
        later content gives (inr at) = inr at

  at-work : (files : List FileName) (answers : List Answer) (work : List Content → Outcome) → AtWork files answers work → (after_reads files answers work).status ≡ statuses.Limit limit number
  at-work [] answers work at = at
  at-work (file ∷ files) [] work at = absurd at
  at-work (file ∷ files) (Failed ∷ answers) work at = absurd at
  at-work (file ∷ files) ((Found found) ∷ answers) work at =
      elim (file_content file found) as (λ r. if_asked r (λ content. AtWork files answers (λ contents. work (content ∷ contents))) ⊥ →
      (if_opened r (λ content. after_reads files answers (λ contents. work (content ∷ contents)))).status ≡ statuses.Limit limit number) [
        | Ok content ↦ λ later. at-work files answers (λ contents. work (content ∷ contents)) later
        | Err other ↦ λ later. absurd later
      ] at

  from-limit : (files : List FileName) (answers : List Answer) (work : List Content → Outcome) →
      AtFirst (IsRefused (statuses.Limit limit number)) files answers ⊎ AtWork files answers work → (after_reads files answers work).status ≡ statuses.Limit limit number
  from-limit files answers work (inl first) =
      there (statuses.Limit limit number) (IsRefused (statuses.Limit limit number)) (to-refused _ (λ e. cc)) (from-refused _) (λ e. cc) files answers work first
  from-limit files answers work (inr at) = at-work files answers work at

pub limit_exactly : LimitExactly
limit_exactly o clock told answers limit number =
    (to-limit limit number (files_named o) answers (work_of o.command o.words clock told), from-limit limit number (files_named o) answers (work_of o.command o.words clock told))

to-failed : (file : FileName) (answer : Answer) → Ends statuses.Cabinet file answer → answer ≡ Failed
to-failed file (Found None) ends = go file.needed ends where
  go : (needed : Bool) → content_if_absent needed file.role ≡ Err statuses.Cabinet → Found None ≡ Failed
  go true e = absurd cc
  go false e = absurd cc
to-failed file (Found (Some bytes)) ends = absurd (told-of_file file.role bytes statuses.Cabinet ends)
to-failed file Failed ends = refl

from-failed : (file : FileName) (answer : Answer) → answer ≡ Failed → Ends statuses.Cabinet file answer
from-failed file (Found found) is = absurd cc
from-failed file Failed is = refl

pub cabinet_exactly : CabinetExactly
cabinet_exactly o clock told answers = exactly statuses.Cabinet (λ file answer. answer ≡ Failed) to-failed from-failed (λ e. cc) o clock told answers (λ h. h)

-- a file that isn't opened doesn't end a run with `Done`
absent-not-done : (needed : Bool) (role : Role) (status : Status) → content_if_absent needed role ≡ Err status → status ≡ statuses.Done → ⊥
absent-not-done true role status gives is = cc
absent-not-done false role status gives is = cc

not-done : (file : FileName) (found : Option (List ℕ)) (status : Status) → file_content file found ≡ Err status → status ≡ statuses.Done → ⊥
not-done file None status gives is = absent-not-done file.needed file.role status gives is
not-done file (Some bytes) status gives is = subst (λ (s : Status). IsOfForm (Err s)) is (told-of_file file.role bytes status gives)

done-opened : (files : List FileName) (answers : List Answer) (work : List Content → Outcome) → (after_reads files answers work).status ≡ statuses.Done → AreOpened files answers
done-opened [] answers work is = tt
done-opened (file ∷ files) [] work is = absurd cc
done-opened (file ∷ files) (Failed ∷ answers) work is = absurd cc
done-opened (file ∷ files) ((Found found) ∷ answers) work is =
    elim (file_content file found) as (λ r. file_content file found ≡ r →
    (if_opened r (λ content. after_reads files answers (λ contents. work (content ∷ contents)))).status ≡ statuses.Done → AreOpened (file ∷ files) (Found found ∷ answers)) [
      | Ok content ↦ λ gives e. ((content, gives), done-opened files answers (λ contents. work (content ∷ contents)) e)
      | Err status ↦ λ gives e. absurd (not-done file found status gives e)
    ] refl is

pub done_only_opened : DoneOnlyOpened
done_only_opened o clock told answers is = done-opened (files_named o) answers (work_of o.command o.words clock told) is

done-prints : (stop : Stop) (outcome : Outcome) (told now : Option (List SinkCall)) → statuses.Done ≡ status_at stop outcome →
    now ≡ option_map (λ (calls : List SinkCall). calls ++ put_calls stop outcome) told → now ≡ option_map (λ (calls : List SinkCall). calls ++ map Put outcome.lines) told
done-prints End outcome told now is printed = printed
done-prints (FileFailed files file) outcome told now is printed = absurd cc
done-prints (LineFailed lines line) outcome told now is printed = absurd cc
done-prints (OutOfMemory files lines) outcome told now is printed = absurd cc

pub done_prints_all : DonePrintsAll
done_prints_all o clock before now from to runs = done-prints runs.run.stop (outcome o clock runs.told runs.run.answers) before.sink.told now.sink.told runs.run.answer runs.run.printed
