use Rattle.std.proofs.Common.{◌∙◌, ◌+◌, ◌++◌, ℕ, List, ap}
use Rattle.cbor_view.specs.Shortest.{shortest_head}
use Rattle.mdoc_draft.proofs.CoreWritten.{core_written}
use Rattle.mdoc_draft.proofs.response_writer.write_core.Goals as goal

pub returns : goal.returns
returns c =
    let head : List ℕ = shortest_head 5 (c.entries_of.result + c.entries_of-2.result) in
    c.finish.ensures
    ∙ core_written _ _ _ c.in_ok-given.given c.in_ok-refused.refused c.entries_of.result c.entries_of-2.result c.args.documents.now
    (c.in_ok-given.ensures ∙ c.count_given.ensures) (c.in_ok-refused.ensures ∙ c.count_refused.ensures)
    c.entries_of.ensures.entries c.entries_of-2.ensures.entries
    (c.in_ok-map.ensures.ok ∙ ap (λ (b : List ℕ). b ++ head) c.new-build.ensures)
    c.in_ok-put_documents.ensures c.in_ok-put_document_errors.ensures
