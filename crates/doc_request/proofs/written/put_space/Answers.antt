use Rattle.doc_request.proofs.Writing.{space_written}
use Rattle.std.proofs.Common.{◌∙◌}
use Rattle.doc_request.proofs.written.put_space.Goals as goal

pub returns : goal.returns
returns c =
    space_written _ _ _ _ c.args.ns.now _ c.args.wishes.now c.in_ok-text.ensures.ok c.in_ok-map.ensures.ok c.in_ok-put_names.ensures
    (c.in_ok-count_of.ensures ∙ c.count_names.ensures)
