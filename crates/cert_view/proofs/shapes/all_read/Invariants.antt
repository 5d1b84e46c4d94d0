use Rattle.std.proofs.Common.{◌≡◌}
use Rattle.der_view.specs.PartsLeft.{left}
use Rattle.cert_view.specs.Shapes.{all_read}
use Rattle.cert_view.proofs.shapes.all_read.Given as goal

-- the parts that are left decide
abbrev pub invariant-loop-part : goal.invariant-loop-part
invariant-loop-part l =
    (goal.iterator-loop-part).can_next l.part-iterator ×
    (goal.iterator-loop-part).is_finite l.part-iterator ×
    (all_read (left l.part-iterator) ≡ all_read (left l.fn.parts))
