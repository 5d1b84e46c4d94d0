use Rattle.std.proofs.Common.{◌≡◌}
use Rattle.std.specs.Prelude.{is_some}
use Rattle.cbor_view.specs.Items.{left}
use Rattle.mdoc_outside.specs.OptionSteps.{each}
use Rattle.doc_response.specs.ResponseParts.{errors_in}
use Rattle.doc_response.proofs.kinds.are_error_maps.Given as goal

-- the parts that are left tell what all of them tell
abbrev pub invariant-loop-map : goal.invariant-loop-map
invariant-loop-map l =
    (goal.iterator-loop-map).can_next l.map-iterator ×
    (goal.iterator-loop-map).is_finite l.map-iterator ×
    (is_some (each errors_in (left l.map-iterator)) ≡ is_some (each errors_in (left l.fn.maps)))
