use Rattle.std.proofs.Common.{◌∙◌, map, ap}
use Rattle.std.proofs.lemmas.List.{take_all}
use Rattle.doc_response.specs.AnsweredView.{element_seen}
use Rattle.doc_response.specs.Namespaces.{texts}
use Rattle.doc_response.proofs.WriterLemmas.{group_counted}
use Rattle.doc_response.proofs.groups.append_errors.Goals as goal

pub append_namespace_errors-requires : goal.append_namespace_errors-requires
append_namespace_errors-requires c =
    let all = take_all c.loop-element.element-index c.args.missing.now c.loop-element-test.false in
    group_counted _ _ _ (texts c.deref-in-loop-ns.result.now) (map element_seen c.args.missing.now)
    c.in_ok-count_of-2.ensures c.count_text.ensures
    (ap texts c.deref-in-loop-ns.ensures.value ∙ (rw all at c.loop-element.invariant))
