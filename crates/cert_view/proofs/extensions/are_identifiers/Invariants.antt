use Rattle.std.proofs.Common.{◌≡◌}
use Rattle.std.specs.List.{list_all}
use Rattle.der_view.specs.PartsLeft.{left}
use Rattle.cert_view.specs.Extensions.{is_identifier}
use Rattle.cert_view.proofs.extensions.are_identifiers.Given as goal

-- the parts that are left decide
abbrev pub invariant-loop-part : goal.invariant-loop-part
invariant-loop-part l =
    (goal.iterator-loop-part).can_next l.part-iterator ×
    (goal.iterator-loop-part).is_finite l.part-iterator ×
    (list_all is_identifier (left l.part-iterator) ≡ list_all is_identifier (left l.fn.parts))
