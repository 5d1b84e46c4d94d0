-- The pairs that are listed are the row.
use Rattle.mdoc_issue.proofs.RowLemmas.{in_row}
use Rattle.mdoc_issue.proofs.row.is_issue.Goals as goal

pub returns : goal.returns
returns c = in_row _ _ c.args.words.now _ c.needed_file.ensures c.needed_text.ensures c.is_in_form.ensures
