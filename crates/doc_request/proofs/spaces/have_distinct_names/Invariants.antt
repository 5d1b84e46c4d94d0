use Rattle.std.proofs.Common.{◌≡◌}
use Rattle.std.specs.List.{AllByRecursion, list_all}
use Rattle.cbor_view.specs.Pairs.{pairs_left}
use Rattle.doc_request.specs.Spaces.{has_distinct_names}
use Rattle.doc_request.specs.Texts.{HasFewNames}
use Rattle.doc_request.proofs.spaces.have_distinct_names.Given as goal

-- those that are left have few names, and tell what all of them tell
abbrev pub invariant-loop-map : goal.invariant-loop-map
invariant-loop-map l =
    (goal.iterator-loop-map).can_next l.map-iterator ×
    (goal.iterator-loop-map).is_finite l.map-iterator ×
    AllByRecursion HasFewNames (pairs_left l.map-iterator) ×
    (list_all has_distinct_names (pairs_left l.map-iterator) ≡ list_all has_distinct_names (pairs_left l.fn.spaces))
