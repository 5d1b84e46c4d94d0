-- What holds of the outcome of each command.
use Rattle.std.proofs.Common.{◌≡◌, ℕ, ℤ, List, true, refl}
use Rattle.mdoc_draft.proofs.DraftLemmas.{draft_ends, draft_works}
use Rattle.mdoc_frame.specs.Asking.{Talks, no_talks}
use Rattle.mdoc_frame.specs.Content.{Content}
use Rattle.mdoc_frame.specs.declared.status.Status.{Status}
use Rattle.mdoc_frame.specs.declared.status.Status.TheVariants as statuses
use Rattle.mdoc_frame.proofs.EndLemmas.{IsEnd}
use Rattle.mdoc_frame.proofs.RunLemmas.{is_work}
use Rattle.mdoc_import.specs.Import.{moment_of, store_of}
use Rattle.mdoc_import.proofs.EndLemmas.{import_ends, import_wanting, import_works}
use Rattle.mdoc_issue.specs.Issue.{out_of}
use Rattle.mdoc_issue.proofs.EndLemmas.{issue_ends, issue_wanting, issue_works}
use Rattle.mdoc_program.specs.Commands.{asks_of, work_of}
use Rattle.mdoc_program.specs.Runs.{MayPass, MayRefuse}
use Rattle.mdoc_program.specs.declared.command.Command.{Command}
use Rattle.mdoc_program.specs.declared.command.Command.TheVariants.{Draft, Import, Issue}

-- how the work of a command ends
abbrev pub IsEndOf : Command → Status → Type 0
IsEndOf command status = IsEnd (MayRefuse command) (MayPass command) status

pub work_ends : (command : Command) (words : List (List ℕ)) (clock : ℤ) (told : Talks) (contents : List Content) → IsEndOf command (work_of command words clock told contents).status
work_ends Draft words clock told contents = draft_ends contents
work_ends Issue words clock told contents = issue_ends (out_of words) told contents
work_ends Import words clock told contents = import_ends (store_of words) (moment_of words clock) told contents

-- it tells no fault of cabinet and sink
pub works : (command : Command) (words : List (List ℕ)) (clock : ℤ) (told : Talks) (contents : List Content) → is_work (work_of command words clock told contents).status ≡ true
works Draft words clock told contents = draft_works contents
works Issue words clock told contents = issue_works (out_of words) told contents
works Import words clock told contents = import_works (store_of words) (moment_of words clock) told contents

-- Where memory is wanting before it, nothing is asked.
pub wanting : (command : Command) (words : List (List ℕ)) (clock : ℤ) (contents : List Content) → asks_of command words clock no_talks statuses.Memory contents
wanting Draft words clock contents = refl
wanting Issue words clock contents = issue_wanting contents
wanting Import words clock contents = import_wanting (moment_of words clock) contents
