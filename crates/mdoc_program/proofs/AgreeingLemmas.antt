-- Runs over stores that agree print the same lines.
use Rattle.std.proofs.Common.{◌≡◌, ℕ, ℤ, true, List, Some, refl, sym}
use Rattle.doc_store.specs.Agreement.{FilesAgree}
use Rattle.mdoc_draft.proofs.DraftLemmas.{draft_agrees}
use Rattle.mdoc_frame.specs.Asking.{Talks}
use Rattle.mdoc_frame.specs.OtherStore.{IsStoreFile, PrintsSame, store_found, with_store}
use Rattle.mdoc_frame.specs.Outcome.{Answer}
use Rattle.mdoc_frame.specs.Pairs.{is_in_form}
use Rattle.mdoc_import.specs.Import.{moment_of}
use Rattle.mdoc_import.proofs.ImportAlike.{import_alike}
use Rattle.mdoc_issue.specs.Issue.{issue_outcome, out_of}
use Rattle.mdoc_issue.proofs.EndLemmas.{issue_agrees}
use Rattle.mdoc_program.specs.Agreeing.{Agreeing}
use Rattle.mdoc_program.specs.Commands.{outcome}
use Rattle.mdoc_program.specs.Order.{Order, files_named, row}
use Rattle.mdoc_program.specs.declared.command.Command.{Command}
use Rattle.mdoc_program.specs.declared.command.Command.TheVariants.{Draft, Import, Issue}
use Rattle.mdoc_program.proofs.OrderRun.{in_form}

-- over all orders
abbrev AgreesFor : Order → Type 0
AgreesFor o =
    (clock : ℤ) (told : Talks) (answers : List Answer) (one other : List ℕ) → store_found (files_named o) answers ≡ Some one → IsStoreFile one → IsStoreFile other →
    FilesAgree one other (outcome o clock told answers).released → (outcome o clock told (with_store (files_named o) answers other)).lines ≡ (outcome o clock told answers).lines

agrees-for : (command : Command) (words : List (List ℕ)) → is_in_form (row command) words ≡ true → (command ≡ Import → ⊥) → AgreesFor (record { command = command; words = words })
agrees-for Import words form other = absurd (other refl)
agrees-for Issue words form other = λ clock told. issue_agrees words (issue_outcome (out_of words) told)
agrees-for Draft words form other = λ clock told. draft_agrees words form

abbrev ImportsFor : Order → Type 0
ImportsFor o =
    (clock : ℤ) (told : Talks) (answers : List Answer) (one other : List ℕ) → store_found (files_named o) answers ≡ Some one → IsStoreFile one → IsStoreFile other →
    PrintsSame (outcome o clock told answers) (outcome o clock told (with_store (files_named o) answers other))

imports-for : (command : Command) (words : List (List ℕ)) → is_in_form (row command) words ≡ true → command ≡ Import → ImportsFor (record { command = command; words = words })
imports-for Import words form is = λ clock told. import_alike words (moment_of words clock) told form
imports-for Draft words form is = absurd cc
imports-for Issue words form is = absurd cc

pub agreeing : Agreeing
agreeing = (
  λ words o is other. agrees-for o.command o.words (in_form words o (sym is)) other,
  λ words o is import. imports-for o.command o.words (in_form words o (sym is)) import,
)
