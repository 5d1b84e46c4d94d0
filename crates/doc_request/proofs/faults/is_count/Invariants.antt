use Rattle.std.proofs.Common.{◌≡◌, ◌+◌, ◌≤◌, length}
use Rattle.cbor_view.specs.Items.{left}
use Rattle.doc_request.proofs.faults.is_count.Given as goal

-- those counted and those left are all
abbrev pub invariant-loop-request : goal.invariant-loop-request
invariant-loop-request l =
    (goal.iterator-loop-request).can_next l._request-iterator ×
    (goal.iterator-loop-request).is_finite l._request-iterator ×
    (l.count + length (left l._request-iterator) ≡ length (left l.fn.requests)) ×
    (l.count ≤ 16)
