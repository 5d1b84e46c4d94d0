use Rattle.std.proofs.Common.{◌∙◌, map, ap}
use Rattle.std.proofs.lemmas.List.{take_all}
use Rattle.doc_response.specs.AnsweredView.{item_seen}
use Rattle.doc_response.specs.Namespaces.{texts}
use Rattle.doc_response.proofs.WriterLemmas.{group_counted}
use Rattle.doc_response.proofs.groups.append_items.Goals as goal

pub append_namespace-requires : goal.append_namespace-requires
append_namespace-requires c =
    let all = take_all c.loop-item.item-index c.args.items.now c.loop-item-test.false in
    group_counted _ _ _ (texts c.deref-in-loop-ns.result.now) (map item_seen c.args.items.now)
    c.in_ok-count_of-2.ensures c.count_text.ensures
    (ap texts c.deref-in-loop-ns.ensures.value ∙ (rw all at c.loop-item.invariant))
