use Rattle.std.proofs.Common.{◌≡◌}
use Rattle.cbor_view.specs.Items.{left}
use Rattle.doc_response.specs.Faults.{fault_in, first_fault}
use Rattle.doc_response.specs.Response.{documents_of}
use Rattle.doc_response.proofs.reading.documents_fault.Given as goal

-- the fault so far, or the one of the documents that are left
abbrev pub invariant-loop-item : goal.invariant-loop-item
invariant-loop-item l =
    (goal.iterator-loop-item).can_next l.item-iterator ×
    (goal.iterator-loop-item).is_finite l.item-iterator ×
    (first_fault l.fault (fault_in (documents_of (left l.item-iterator))) ≡ fault_in (documents_of (left l.fn.items)))
