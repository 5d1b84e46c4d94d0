-- Each arm is of its command.
use Rattle.mdoc_program.proofs.order.is_in_row.Goals as goal

pub returns-in-Draft : goal.returns-in-Draft
returns-in-Draft c = rw c.in-Draft.is c.is_draft.ensures

pub returns-in-Issue : goal.returns-in-Issue
returns-in-Issue c = rw c.in-Issue.is c.is_issue.ensures

pub returns-in-Import : goal.returns-in-Import
returns-in-Import c = rw c.in-Import.is c.is_import.ensures
