-- The words of the program: the command, then pairs of a name and a value, in any order. One table says which pairs a
-- command has.
use Rattle.std.specs.Prelude.{ℕ, List, [], ◌∷◌, Option, Some, None, codes, if◌then◌else◌}
use Rattle.std.specs.Str.{bytes_eq}
use Rattle.mdoc_outside.specs.OptionSteps.{◌>>=◌, where_true}
use Rattle.mdoc_draft.specs.Draft.{draft_row}
use Rattle.mdoc_frame.specs.Outcome.{FileName, named_files}
use Rattle.mdoc_frame.specs.Pairs.{Pair, is_in_form}
use Rattle.mdoc_import.specs.Import.{import_row}
use Rattle.mdoc_issue.specs.Issue.{issue_row}
use Rattle.mdoc_program.specs.declared.command.Command.{Command}
use Rattle.mdoc_program.specs.declared.command.Command.TheVariants.{Draft, Import, Issue}

-- ---- the table

abbrev pub row : Command → List Pair
row Draft = draft_row
row Issue = issue_row
row Import = import_row

abbrev pub command_of : List ℕ → Option Command
command_of word =
    if bytes_eq word (codes "draft") then Some Draft
    else if bytes_eq word (codes "issue") then Some Issue
    else if bytes_eq word (codes "import") then Some Import
    else None

-- ---- orders

-- A command, and the words of its pairs.
pub record Order : Type 0 where
  pub command : Command
  pub words : List (List ℕ)

-- The order that words give, where they are in the form of a command's row.
abbrev pub order : List (List ℕ) → Option Order
order [] = None
order (word ∷ words) = command_of word >>= λ command. where_true (is_in_form (row command) words) (record { command = command; words = words })

-- the files of an order, in the order of the table
abbrev pub files_named : Order → List FileName
files_named order = named_files (row order.command) order.words
