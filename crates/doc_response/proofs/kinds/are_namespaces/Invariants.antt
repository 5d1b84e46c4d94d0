use Rattle.std.proofs.Common.{◌≡◌}
use Rattle.std.specs.Prelude.{is_some}
use Rattle.cbor_view.specs.Pairs.{pairs_left}
use Rattle.mdoc_outside.specs.OptionSteps.{each}
use Rattle.doc_response.specs.ResponseParts.{namespace}
use Rattle.doc_response.proofs.kinds.are_namespaces.Given as goal

-- the parts that are left tell what all of them tell
abbrev pub invariant-loop-name : goal.invariant-loop-name
invariant-loop-name l =
    (goal.iterator-loop-name).can_next l.name-iterator ×
    (goal.iterator-loop-name).is_finite l.name-iterator ×
    (is_some (each namespace (pairs_left l.name-iterator)) ≡ is_some (each namespace (pairs_left l.fn.pairs)))
