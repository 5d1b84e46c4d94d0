-- The pairs that are listed are the row.
use Rattle.mdoc_draft.proofs.RowLemmas.{in_row}
use Rattle.mdoc_draft.proofs.row.is_draft.Goals as goal

pub returns : goal.returns
returns c = in_row _ _ _ c.args.words.now _ c.needed_file.ensures c.needed_file-2.ensures c.needed_file-3.ensures c.is_in_form.ensures
