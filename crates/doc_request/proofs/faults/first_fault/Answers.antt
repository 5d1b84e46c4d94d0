use Rattle.std.proofs.Common.{◌∙◌}
use Rattle.cbor_view.specs.Items.{left}
use Rattle.cbor_view.specs.View.{part}
use Rattle.doc_request.proofs.FirstFaults.{one-more}
use Rattle.doc_request.proofs.faults.first_fault.Goals as goal

pub loop-request-preserved : goal.loop-request-preserved
loop-request-preserved c =
    let so_far = rw c.in-Some.ensures.steps at c.loop-request.invariant.2 in
    (tt, tt, rw (c.earlier-found.ensures, c.document_fault.ensures) (one-more c.loop-request.found (part c.in-Some.request) (left c.next.new.self) ∙ so_far))
