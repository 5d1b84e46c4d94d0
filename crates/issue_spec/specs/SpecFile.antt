-- A spec file (this project's own): what the issuing authority puts into the copies of a document. It has
-- lines `type`, `auth`, `copies`, `signer`, `signed`, `from`, `until` and, where it has one, `update`, each
-- once and in any order, and after them one line `element` or more.
--
-- The fault of a file is that of its first bad line, from the top; else a lack at its end; else that of the whole.
use Rattle.std.specs.Prelude.{◌≡◌, ℕ, max, List, [], ◌∷◌, ◌++◌, length, Bool, Option, Some, None, Result, Ok, Err}
use Rattle.std.specs.List.{list_any}
use Rattle.std.specs.Str.Lines.{lines}
use Rattle.mdoc_outside.specs.Lines.{Line, file_lines, words}
use Rattle.mdoc_outside.specs.ResultSteps.{◌>>=◌, or_fault}
use Rattle.issue_spec.specs.SpecChecks.{fails_where, first_failed, is_bad_header, element_checks, whole_checks}
use Rattle.issue_spec.specs.SpecEnd.{fields_of}
use Rattle.issue_spec.specs.SpecLine.{spec_line, is_new_signer}
use Rattle.issue_spec.specs.SpecSoFar.{SoFar, nothing, with_header}
use Rattle.issue_spec.specs.declared.spec_check.SpecCheck.{SpecCheck}
use Rattle.issue_spec.specs.declared.spec_check.SpecCheck.TheVariants as checks
use Rattle.issue_spec.specs.declared.spec_element.SpecElement.{SpecElement}
use Rattle.issue_spec.specs.declared.spec_fault.SpecFault.{SpecFault}
use Rattle.issue_spec.specs.declared.spec_fault.SpecFault.TheVariants as faults
use Rattle.issue_spec.specs.declared.spec_fields.SpecFields.{SpecFields}
use Rattle.issue_spec.specs.declared.spec_header.SpecHeader.{SpecHeader}
use Rattle.issue_spec.specs.declared.spec_line.SpecLine.{SpecLine}
use Rattle.issue_spec.specs.declared.spec_line.SpecLine.TheVariants.{Header, Element}

-- a value, unless a check fails at this line; 0 stands for the whole file
abbrev pub unless : {A : Type 0} → Option SpecCheck → ℕ → A → Result A SpecFault
unless None number value = Ok value
unless (Some failed) number value = Err (faults.Form failed number)

-- with a header line, in a file with or without new certificates
abbrev pub with_header_line : Bool → ℕ → SpecHeader → SoFar → Result SoFar SpecFault
with_header_line new number header so_far =
    unless (fails_where (is_bad_header new header so_far) checks.Line) number
    (record { headers = with_header header so_far.headers; elements = so_far.elements })

-- with an element
abbrev pub with_element : SpecElement → SoFar → SoFar
with_element e so_far = record { headers = so_far.headers; elements = so_far.elements ++ e ∷ [] }

-- with an element line
abbrev pub with_element_line : ℕ → SpecElement → SoFar → Result SoFar SpecFault
with_element_line number e so_far =
    unless (first_failed (element_checks e so_far)) number (with_element e so_far)

-- with a line of this number that says this, if it says something
abbrev pub with_line : Bool → ℕ → Option SpecLine → SoFar → Result SoFar SpecFault
with_line new number None so_far = Err (faults.Form checks.Line number)
with_line new number (Some (Header header)) so_far = with_header_line new number header so_far
with_line new number (Some (Element e)) so_far = with_element_line number e so_far

-- what all lines say, else the fault of the first bad one
abbrev pub with_lines : Bool → SoFar → List Line → Result SoFar SpecFault
with_lines new so_far [] = Ok so_far
with_lines new so_far (line ∷ rest) = do
  next ← with_line new line.number (spec_line line.bytes) so_far
  with_lines new next rest

-- whether a line, be it bad or not, asks for new certificates
abbrev pub has_new_signer : List Line → Bool
has_new_signer all = list_any (λ line. is_new_signer (words line.bytes)) all

-- What a file says whose last line has this number.
abbrev pub finished : ℕ → SoFar → Result SpecFields SpecFault
finished last so_far = do
  fields ← or_fault (faults.Form checks.Line last) (fields_of so_far)
  unless (first_failed (whole_checks fields)) 0 fields

abbrev pub read_on : Bool → ℕ → SoFar → List Line → Result SpecFields SpecFault
read_on new last so_far rest = with_lines new so_far rest >>= finished last

-- What a spec file says, else its first fault.
abbrev pub spec_of : List ℕ → Result SpecFields SpecFault
spec_of text = read_on (has_new_signer (file_lines text)) (max 1 (length (lines text))) nothing (file_lines text)

-- ---- what a reader answers

-- the fault is the one that the definition names; want of memory may come before any answer
abbrev pub IsSpecFault : {A : Type 0} → SpecFault → Result A SpecFault → Type 0
IsSpecFault (faults.Form failed number) read = read ≡ Err (faults.Form failed number)
IsSpecFault faults.Memory read = Unit {0}

-- What a reader answered, seen by `view`, is what the definition gives.
abbrev pub ReadsSpec : {A B : Type 0} → (A → B) → Result A SpecFault → Result B SpecFault → Type 0
ReadsSpec view (Ok value) read = read ≡ Ok (view value)
ReadsSpec view (Err fault) read = IsSpecFault fault read
