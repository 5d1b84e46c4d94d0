use Rattle.std.proofs.Common.{map}
use Rattle.std.proofs.lemmas.List.{take_all}
use Rattle.doc_response.specs.AnsweredView.{item_seen}
use Rattle.doc_response.specs.Answered.{of_namespace}
use Rattle.doc_response.proofs.WriterLemmas.{items_written}
use Rattle.doc_response.proofs.groups.append_namespace.Goals as goal

pub returns : goal.returns
returns c =
    let all = take_all c.loop-item.item-index c.args.items.now c.loop-item-test.false in
    items_written _ c.args.ns.now _ _ _ c.args.count (of_namespace (map item_seen c.args.items.now) c.args.ns.now).1
    c.in_ok-text.ensures.ok c.in_ok-array.ensures.ok (rw all at c.loop-item.invariant) c.requires
