use Rattle.std.proofs.Common.{◌≡◌}
use Rattle.std.specs.List.{list_any}
use Rattle.der_view.specs.PartsLeft.{left}
use Rattle.cert_view.specs.Extensions.{is_document_signer}
use Rattle.cert_view.proofs.extensions.holds_document_signer.Given as goal

-- the parts that are left decide
abbrev pub invariant-loop-part : goal.invariant-loop-part
invariant-loop-part l =
    (goal.iterator-loop-part).can_next l.part-iterator ×
    (goal.iterator-loop-part).is_finite l.part-iterator ×
    (list_any is_document_signer (left l.part-iterator) ≡ list_any is_document_signer (left l.fn.parts))
