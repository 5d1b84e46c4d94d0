-- What a file gives, by its role: it is there, is not too long, and is in its form; else the status that tells what is wrong.
use mathlib.Core.Path.{refl}
use Rattle.std.specs.Prelude.{ℕ, nat_le, List, [], length, filter_map, Option, Some, None, Result, Ok, Err, IsOk, if◌then◌else◌, unwrap_or}
use Rattle.mdoc_outside.specs.ResultSteps.{◌>>=◌}
use Rattle.doc_store.specs.Faults.{store_fault}
use Rattle.doc_store.specs.Store.{Store, store}
use Rattle.doc_store.specs.declared.first_fault.Fault.{Fault}
use Rattle.doc_store.specs.declared.store_check.StoreCheck.{StoreCheck}
use Rattle.doc_store.specs.declared.store_check.StoreCheck.TheVariants as stores
use Rattle.mdoc_outside.specs.declared.limit_name.LimitName.TheVariants.{FileBytes, Roots}
use Rattle.cert_view.specs.Certificate.{Fields, certificate}
use Rattle.cert_view.specs.RootLine.{Listed}
use Rattle.cert_view.specs.Roots.{roots_of}
use Rattle.cert_view.specs.declared.cert_fault.CertFault.{CertFault}
use Rattle.cert_view.specs.declared.root.Root.{Root}
use Rattle.cert_view.specs.declared.roots_fault.RootsFault.{RootsFault}
use Rattle.cert_view.specs.declared.roots_fault.RootsFault.TheVariants as roots_faults
use Rattle.consent.specs.Rules.{rules_of}
use Rattle.consent.specs.declared.rule.Rule.{Rule}
use Rattle.doc_request.specs.declared.doc_draft.DocDraft.{DocDraft}
use Rattle.issue_spec.specs.SpecFile.{spec_of}
use Rattle.issue_spec.specs.declared.spec_check.SpecCheck.{SpecCheck}
use Rattle.issue_spec.specs.declared.spec_check.SpecCheck.TheVariants as specs
use Rattle.issue_spec.specs.declared.spec_fault.SpecFault.{SpecFault}
use Rattle.issue_spec.specs.declared.spec_fault.SpecFault.TheVariants as spec_faults
use Rattle.issue_spec.specs.declared.spec_fields.SpecFields.{SpecFields}
use Rattle.mdoc_frame.specs.Wishes.{wishes_of}
use Rattle.mdoc_frame.specs.declared.file_fault.FileFault.{FileFault}
use Rattle.mdoc_frame.specs.declared.file_fault.FileFault.TheVariants as faults
use Rattle.mdoc_frame.specs.declared.form_check.FormCheck.TheVariants as checks
use Rattle.mdoc_frame.specs.declared.role.Role.{Role}
use Rattle.mdoc_frame.specs.declared.role.Role.TheVariants as roles
use Rattle.mdoc_frame.specs.declared.status.Status.{Status}
use Rattle.mdoc_frame.specs.declared.status.Status.TheVariants.{Missing, Form, Limit, Memory}

-- a store file beside the store that it spells
pub record StoreFile : Type 0 where
  pub bytes : List ℕ
  pub documents : Store

abbrev pub store_file : List ℕ → StoreFile
store_file bytes = record { bytes = bytes; documents = unwrap_or (store bytes) [] }

-- What a file of a role gives.
pub data Content : Type 0 where
  OfStore : StoreFile → Content
  OfWishes : List DocDraft → Content
  OfRules : List Rule → Content
  OfSpec : SpecFields → Content
  OfPackage : StoreFile → Content
  OfRoots : List Root → Content
  -- of a role that no command reads yet
  Unread : Content

-- The bytes of a file: it is there, and has at most 16,777,216 bytes.
abbrev pub bytes_of : Role → Option (List ℕ) → Result (List ℕ) Status
bytes_of role None = Err (Missing role)
bytes_of role (Some bytes) = if nat_le (length bytes) 16777216 then Ok bytes else Err (Limit FileBytes (length bytes))

-- the status of a line file with this fault
abbrev pub status_of : Role → FileFault → Status
status_of role (faults.Line number) = Form role checks.Line number
status_of role (faults.Limit limit number) = Limit limit number
status_of role faults.Memory = Memory

-- what a line file says, or the status of its first fault
abbrev pub or_status : {A : Type 0} → Role → (A → Content) → Result A FileFault → Result Content Status
or_status role content (Ok value) = Ok (content value)
or_status role content (Err fault) = Err (status_of role fault)

-- what the lines of a file say, or the status of the first one outside the grammar
abbrev pub or_bad_line : {A : Type 0} → Role → (A → Content) → Result A ℕ → Result Content Status
or_bad_line role content (Ok value) = Ok (content value)
or_bad_line role content (Err number) = Err (Form role checks.Line number)

-- the status of a store or a package by its first fault: a limit that is exceeded, or the check that fails, and where
abbrev pub check_status : Role → ℕ → StoreCheck → Status
check_status role at (stores.Limit limit number) = Limit limit number
check_status role at check = Form role (checks.Store check) at

abbrev pub fault_status : Role → Fault → Status
fault_status role f = check_status role f.at f.check

-- A file without a fault spells a store; else its first fault is reported.
abbrev pub without_fault : Role → (StoreFile → Content) → Option Fault → StoreFile → Result Content Status
without_fault role content None file = Ok (content file)
without_fault role content (Some f) file = Err (fault_status role f)

-- a listed root, whose bytes are a certificate
abbrev pub root_with : (name bytes : List ℕ) (read : Result Fields CertFault) → (IsOk read → IsOk (certificate bytes)) → Option Root
root_with name bytes (Ok fields) holds = Some (record { name = name; bytes = bytes; reads = holds refl })
root_with name bytes (Err fault) holds = None

abbrev pub root_of : Listed → Option Root
root_of listed = root_with listed.name listed.bytes (certificate listed.bytes) (λ ok. ok)

-- the trusted roots that a roots file lists, or the status of its first bad line or of the root that is one too many
abbrev pub or_roots_fault : Result (List Listed) RootsFault → Result Content Status
or_roots_fault (Ok listed) = Ok (OfRoots (filter_map root_of listed))
or_roots_fault (Err (roots_faults.Line number)) = Err (Form roles.Roots checks.Line number)
or_roots_fault (Err (roots_faults.TooMany number)) = Err (Limit Roots number)
or_roots_fault (Err roots_faults.Memory) = Err Memory

-- what a spec file says, or the status of its first fault: a limit that is exceeded, or the check that fails, and the line
abbrev pub spec_status : ℕ → SpecCheck → Status
spec_status number (specs.Limit limit passed) = Limit limit passed
spec_status number check = Form roles.Spec (checks.Spec check) number

abbrev pub or_spec_fault : Result SpecFields SpecFault → Result Content Status
or_spec_fault (Ok fields) = Ok (OfSpec fields)
or_spec_fault (Err (spec_faults.Form check number)) = Err (spec_status number check)
or_spec_fault (Err spec_faults.Memory) = Err Memory

-- the form of a file
abbrev pub form : Role → List ℕ → Result Content Status
form roles.Store bytes = without_fault roles.Store OfStore (store_fault bytes) (store_file bytes)
form roles.Package bytes = without_fault roles.Package OfPackage (store_fault bytes) (store_file bytes)
form roles.Roots text = or_roots_fault (roots_of text)
form roles.Wishes text = or_status roles.Wishes OfWishes (wishes_of text)
form roles.Rules text = or_bad_line roles.Rules OfRules (rules_of text)
form roles.Spec text = or_spec_fault (spec_of text)
form role bytes = Ok Unread

-- What was found under a name gives: its reading, its length, its form.
abbrev pub content_of : Role → Option (List ℕ) → Result Content Status
content_of role found = bytes_of role found >>= form role
