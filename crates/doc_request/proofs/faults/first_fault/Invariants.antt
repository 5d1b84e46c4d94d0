use Rattle.std.proofs.Common.{◌≡◌}
use Rattle.cbor_view.specs.Items.{left}
use Rattle.doc_request.specs.Asked.{first_fault}
use Rattle.doc_request.specs.Checks.{earlier}
use Rattle.doc_request.proofs.faults.first_fault.Given as goal

-- what was found, or what is wrong with those that are left
abbrev pub invariant-loop-request : goal.invariant-loop-request
invariant-loop-request l =
    (goal.iterator-loop-request).can_next l.request-iterator ×
    (goal.iterator-loop-request).is_finite l.request-iterator ×
    (earlier l.found (first_fault (left l.request-iterator)) ≡ first_fault (left l.fn.requests))
