use Rattle.mdoc_draft.proofs.CoreWritten.{given_written}
use Rattle.mdoc_draft.proofs.response_writer.put_given.Goals as goal

pub returns : goal.returns
returns c =
    given_written _ _ _ _ _ _ c.args.entries c.args.document.now c.in_ok-map.ensures.ok c.in_ok-text.ensures.ok
    (rw c.doc_type.ensures at c.in_ok-text-2.ensures.ok) c.in_ok-text-3.ensures.ok (rw c.items.ensures at c.in_ok-append_items.ensures)
