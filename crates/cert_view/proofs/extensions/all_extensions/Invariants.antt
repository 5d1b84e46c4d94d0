use Rattle.std.proofs.Common.{◌≡◌, Ok, None}
use Rattle.der_view.specs.PartsLeft.{left}
use Rattle.cert_view.specs.Extensions.{with_extensions}
use Rattle.cert_view.proofs.extensions.all_extensions.Given as goal

-- what was said so far goes on with the parts that are left
abbrev pub invariant-loop-part : goal.invariant-loop-part
invariant-loop-part l =
    (goal.iterator-loop-part).can_next l.part-iterator ×
    (goal.iterator-loop-part).is_finite l.part-iterator ×
    (with_extensions l.said (left l.part-iterator) ≡ with_extensions (Ok None) (left l.fn.parts))
