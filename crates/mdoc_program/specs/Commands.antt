-- The outcome of each command, and what it asks.
use Rattle.std.specs.Prelude.{◌≡◌, ℕ, ℤ, List}
use Rattle.mdoc_frame.specs.Asking.{Talks, no_talks}
use Rattle.mdoc_frame.specs.Content.{Content}
use Rattle.mdoc_draft.specs.Draft.{draft_outcome}
use Rattle.mdoc_import.specs.Import.{import_asks, import_outcome, moment_of, store_of}
use Rattle.mdoc_issue.specs.Issue.{issue_asks, issue_outcome, out_of}
use Rattle.mdoc_frame.specs.Outcome.{Answer, Outcome, after_reads}
use Rattle.mdoc_program.specs.Order.{Order, files_named}
use Rattle.mdoc_program.specs.declared.command.Command.{Command}
use Rattle.mdoc_program.specs.declared.command.Command.TheVariants.{Draft, Import, Issue}
use Rattle.mdoc_frame.specs.declared.status.Status.{Status}

-- the work of a command with these words, once its files are opened, by what the clock says, the devices told and the dice
-- dealt
abbrev pub work_of : Command → List (List ℕ) → ℤ → Talks → List Content → Outcome
work_of Draft words clock told contents = draft_outcome contents
work_of Issue words clock told contents = issue_outcome (out_of words) told contents
work_of Import words clock told contents = import_outcome (store_of words) (moment_of words clock) told contents

-- and what it asks and draws
abbrev pub asks_of : Command → List (List ℕ) → ℤ → Talks → Status → List Content → Type 0
asks_of Draft words clock told status contents = told ≡ no_talks
asks_of Issue words clock told status contents = issue_asks told status contents
asks_of Import words clock told status contents = import_asks (moment_of words clock) told status contents

-- What an order comes to, by what the clock says, the cabinet answered to its reads, the devices told and the dice dealt.
abbrev pub outcome : Order → ℤ → Talks → List Answer → Outcome
outcome order clock told answers = after_reads (files_named order) answers (work_of order.command order.words clock told)
