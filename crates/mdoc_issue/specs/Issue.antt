-- The command `issue`: the package that it makes of a spec, and the lines that it prints.
use Rattle.std.specs.Prelude.{◌≡◌, ℕ, List, [], ◌∷◌, ◌++◌, length, Option, Some, None, Result, Ok, Err, codes, unwrap_or}
use Rattle.std.specs.Fmt.{decimal}
use Rattle.hex.specs.Hex.{encode_lower}
use Rattle.issuing.specs.declared.issue_fault.IssueFault.{IssueFault}
use Rattle.issuing.specs.declared.issue_fault.IssueFault.TheVariants as faults
use Rattle.issue_spec.specs.declared.spec_fields.SpecFields.{SpecFields}
use Rattle.key_device.specs.Plan.{End, Fits, over_all}
use Rattle.mdoc_print.specs.Printed.{line, name_text}
use Rattle.issuing.specs.Package.{issued_package}
use Rattle.issuing.specs.declared.issued.Issued.{Issued}
use Rattle.mdoc_frame.specs.Asking.{EndsAs, Talks, no_talks}
use Rattle.mdoc_frame.specs.Content.{Content, OfSpec}
use Rattle.mdoc_frame.specs.Outcome.{FileName, Outcome, needed_file_name, only_status}
use Rattle.mdoc_frame.specs.Pairs.{Pair, needed_file, needed_text, value_of}
use Rattle.mdoc_frame.specs.declared.role.Role.TheVariants as roles
use Rattle.mdoc_frame.specs.declared.status.Status.{Status}
use Rattle.mdoc_frame.specs.declared.status.Status.TheVariants as statuses

-- its words: a spec, and the name of the package
abbrev pub issue_row : List Pair
issue_row = needed_file (codes "--spec") roles.Spec ∷ (needed_text (codes "--out") ∷ [])

-- the value of `--out`, which has to be there
abbrev pub out_of : List (List ℕ) → List ℕ
out_of words = unwrap_or (value_of (codes "--out") words) []

-- its file, by its name
abbrev pub issue_files : List ℕ → List FileName
issue_files spec = needed_file_name roles.Spec spec ∷ []

-- The certificate of the root, where it was made with the signer.
abbrev pub root_line : List ℕ → List ℕ
root_line root = line (codes "root issuer " ++ encode_lower root)

abbrev pub root_lines : Option (List ℕ) → List (List ℕ)
root_lines None = []
root_lines (Some root) = root_line root ∷ []

-- What was issued: the document type, and how many copies of how many elements.
abbrev pub issued_line : SpecFields → List ℕ
issued_line fields =
    line (codes "issued " ++ name_text fields.doc_type ++ codes " copies " ++ decimal fields.copies ++ codes " elements " ++ decimal (length fields.elements))

abbrev pub issue_lines : SpecFields → Issued → List (List ℕ)
issue_lines fields issued = root_lines issued.root ++ issued_line fields ∷ []

abbrev pub fault_status : IssueFault → Status
fault_status faults.Device = statuses.Device
fault_status faults.Dice = statuses.Dice
fault_status (faults.Limit limit number) = statuses.Limit limit number
fault_status faults.Memory = statuses.Memory

-- The package is written under the name of `--out`, and then the lines are printed; with a fault nothing is.
abbrev pub issue_of : List ℕ → SpecFields → Option (Result Issued IssueFault) → Outcome
issue_of out fields None = only_status statuses.Dice
issue_of out fields (Some (Err fault)) = only_status (fault_status fault)
issue_of out fields (Some (Ok issued)) = record {
  status = statuses.Done;
  lines = issue_lines fields issued;
  files = (out, issued.package) ∷ [];
  released = [];
}

-- What `issue` comes to, by what the devices told and the dice dealt: the wallet's device is the holder's, and the
-- reader's is the issuer's. Its file gives a spec, and nothing else.
abbrev pub issue_outcome : List ℕ → Talks → List Content → Outcome
issue_outcome out told ((OfSpec fields) ∷ []) = issue_of out fields (over_all (issued_package fields) told.wallet told.reader told.words).outcome
issue_outcome out told contents = only_status statuses.Memory

-- What it asks and draws: what the plan of the package does, up to its end.
pub record IssueAsks (fields : SpecFields) (told : Talks) (status : Status) : Type 0 where
  pub end : End (Result Issued IssueFault)
  pub asks : Fits (issued_package fields) told.wallet told.reader told.words end
  pub ends : EndsAs end status

abbrev pub issue_asks : Talks → Status → List Content → Type 0
issue_asks told status ((OfSpec fields) ∷ []) = IssueAsks fields told status
issue_asks told status contents = told ≡ no_talks
