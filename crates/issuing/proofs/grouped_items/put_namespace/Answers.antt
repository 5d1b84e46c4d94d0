use Rattle.std.proofs.Common.{◌∙◌}
use Rattle.issuing.proofs.GroupLemmas.{namespace_written}
use Rattle.issuing.proofs.grouped_items.put_namespace.Goals as goal

pub returns : goal.returns
returns c =
    namespace_written c.put_elements.result c.args.ns.now c.as_bytes-name.result.now c.args.elements.now c.args.salts.now c.args.build.now _ _ c.put_elements.new.build _
    c.requires.salts c.as_bytes-name.ensures.value c.in_ok-text.ensures.ok c.in_ok-array.ensures.ok (c.in_ok-count_of.ensures ∙ c.count_in_namespace.ensures.number) c.put_elements.ensures
