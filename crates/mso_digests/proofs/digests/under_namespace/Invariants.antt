use Rattle.std.proofs.Common.{◌≡◌}
use Rattle.cbor_view.specs.Pairs.{pairs_left}
use Rattle.mso_digests.specs.Nested.{under_namespace}
use Rattle.mso_digests.proofs.digests.under_namespace.Given as goal

-- the namespaces that are left tell what all of them tell
abbrev pub invariant-loop-name : goal.invariant-loop-name
invariant-loop-name l =
    (goal.iterator-loop-name).can_next l.name-iterator ×
    (goal.iterator-loop-name).is_finite l.name-iterator ×
    (under_namespace l.ns l.id (pairs_left l.name-iterator) ≡ under_namespace l.ns l.id (pairs_left l.fn.namespaces))
