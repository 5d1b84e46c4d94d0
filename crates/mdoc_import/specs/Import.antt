-- The command `import`: the store that a package becomes part of, and the lines that it prints.
use Rattle.std.specs.Prelude.{◌≡◌, ℕ, ℤ, pos, List, [], ◌∷◌, Option, Some, None, Result, Ok, Err, codes, unwrap_or}
use Rattle.std.specs.Str.Parse.{digits_value}
use Rattle.cert_view.specs.declared.root.Root.{Root}
use Rattle.key_device.specs.Plan.{End, Fits, over}
use Rattle.mdoc_print.specs.PackageLines.{package_lines, refusal_lines}
use Rattle.package_import.specs.Import.{import_checks}
use Rattle.package_import.specs.declared.import_fault.ImportFault.{ImportFault}
use Rattle.package_import.specs.declared.import_fault.ImportFault.TheVariants as faults
use Rattle.package_import.specs.declared.imported.Imported.{Imported}
use Rattle.verdict_model.specs.declared.package_verdict.PackageVerdict.{PackageVerdict}
use Rattle.mdoc_frame.specs.Asking.{EndsAs, Talks, no_talks}
use Rattle.mdoc_frame.specs.Content.{Content, OfPackage, OfRoots, OfStore, StoreFile}
use Rattle.mdoc_frame.specs.Outcome.{FileName, Outcome, file_name_or_none, needed_file_name, only_status}
use Rattle.mdoc_frame.specs.Pairs.{Pair, file_or_none, needed_file, number, value_of}
use Rattle.mdoc_frame.specs.declared.role.Role.TheVariants as roles
use Rattle.mdoc_frame.specs.declared.status.Status.{Status}
use Rattle.mdoc_frame.specs.declared.status.Status.TheVariants as statuses

-- its words: a package, roots, the store that the package becomes part of, and a moment
abbrev pub import_row : List Pair
import_row =
    needed_file (codes "--package") roles.Package
    ∷ (needed_file (codes "--roots") roles.Roots
    ∷ (file_or_none (codes "--store") roles.Store
    ∷ (number (codes "--moment") 0 253402300799 ∷ [])))

-- the value of `--store`, which has to be there
abbrev pub store_of : List (List ℕ) → List ℕ
store_of words = unwrap_or (value_of (codes "--store") words) []

-- the value of `--moment`, or else what the clock says, in seconds since 1970
abbrev pub or_clock : Option (List ℕ) → ℤ → ℤ
or_clock None clock = clock
or_clock (Some word) clock = pos (digits_value 10 word)

abbrev pub moment_of : List (List ℕ) → ℤ → ℤ
moment_of words clock = or_clock (value_of (codes "--moment") words) clock

-- its files, by their names; a store that is absent counts as the empty one
abbrev pub import_files : List ℕ → List ℕ → List ℕ → List FileName
import_files received roots store = needed_file_name roles.Package received ∷ (needed_file_name roles.Roots roots ∷ (file_name_or_none roles.Store store ∷ []))

abbrev pub import_status : ImportFault → Status
import_status faults.Device = statuses.Device
import_status (faults.Limit limit number) = statuses.Limit limit number
import_status faults.Memory = statuses.Memory

-- the merged store, where no document is refused
abbrev pub merged_files : List ℕ → Option (List ℕ) → List (List ℕ × List ℕ)
merged_files store None = []
merged_files store (Some bytes) = (store, bytes) ∷ []

abbrev pub merged_status : Option (List ℕ) → Status
merged_status None = statuses.Verdict
merged_status (Some bytes) = statuses.Done

-- a line for each document, or for each that is refused
abbrev pub import_lines : Option (List ℕ) → List PackageVerdict → List (List ℕ)
import_lines None verdicts = refusal_lines verdicts
import_lines (Some bytes) verdicts = package_lines verdicts

-- The merged store is written under the name of `--store`, and then the lines are printed; where a document is refused
-- nothing is written, and with a fault nothing is written or printed.
abbrev pub import_of : List ℕ → Option (Result Imported ImportFault) → Outcome
import_of store None = only_status statuses.Memory
import_of store (Some (Err fault)) = only_status (import_status fault)
import_of store (Some (Ok imported)) = record {
  status = merged_status imported.merged;
  lines = import_lines imported.merged imported.verdicts;
  files = merged_files store imported.merged;
  released = [];
}

-- What `import` comes to, by what the reader's device told. Its files give a package, roots and a store, and nothing else.
abbrev pub import_outcome : List ℕ → ℤ → Talks → List Content → Outcome
import_outcome store moment told ((OfPackage received) ∷ ((OfRoots roots) ∷ ((OfStore own) ∷ []))) =
    import_of store (over (import_checks roots moment own.documents received.documents) told.reader).outcome
import_outcome store moment told contents = only_status statuses.Memory

-- What it asks: the reader's device what the checks of the package do, up to their end; the wallet's device and the dice
-- nothing.
pub record ImportAsks (roots : List Root) (moment : ℤ) (own received : StoreFile) (told : Talks) (status : Status) : Type 0 where
  pub end : End (Result Imported ImportFault)
  pub asks : Fits (import_checks roots moment own.documents received.documents) told.reader [] [] end
  pub ends : EndsAs end status
  pub wallet : told.wallet ≡ []
  pub words : told.words ≡ []

abbrev pub import_asks : ℤ → Talks → Status → List Content → Type 0
import_asks moment told status ((OfPackage received) ∷ ((OfRoots roots) ∷ ((OfStore own) ∷ []))) = ImportAsks roots moment own received told status
import_asks moment told status contents = told ≡ no_talks
