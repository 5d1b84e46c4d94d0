-- The pairs that are listed are the row.
use Rattle.mdoc_import.proofs.RowLemmas.{in_row}
use Rattle.mdoc_import.proofs.row.is_import.Goals as goal

pub returns : goal.returns
returns c = in_row _ _ _ _ c.args.words.now _ c.needed_file.ensures c.needed_file-2.ensures c.file_or_none.ensures c.number.ensures c.is_in_form.ensures
