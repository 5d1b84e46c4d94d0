use Rattle.std.proofs.Common.{map}
use Rattle.std.proofs.lemmas.List.{take_all}
use Rattle.doc_response.specs.AnsweredView.{element_seen}
use Rattle.doc_response.specs.Answered.{of_namespace}
use Rattle.doc_response.proofs.WriterLemmas.{errors_written}
use Rattle.doc_response.proofs.groups.append_namespace_errors.Goals as goal

pub returns : goal.returns
returns c =
    let all = take_all c.loop-element.element-index c.args.missing.now c.loop-element-test.false in
    errors_written _ c.args.ns.now _ _ _ c.args.count (of_namespace (map element_seen c.args.missing.now) c.args.ns.now).1
    c.in_ok-text.ensures.ok c.in_ok-map.ensures.ok (rw all at c.loop-element.invariant) c.requires
