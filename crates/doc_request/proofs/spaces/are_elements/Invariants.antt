use Rattle.std.proofs.Common.{◌≡◌}
use Rattle.std.specs.List.{list_all}
use Rattle.cbor_view.specs.Pairs.{pairs_left}
use Rattle.doc_request.specs.Spaces.{is_element}
use Rattle.doc_request.proofs.spaces.are_elements.Given as goal

-- those that are left tell what all of them tell
abbrev pub invariant-loop-name : goal.invariant-loop-name
invariant-loop-name l =
    (goal.iterator-loop-name).can_next l.name-iterator ×
    (goal.iterator-loop-name).is_finite l.name-iterator ×
    (list_all is_element (pairs_left l.name-iterator) ≡ list_all is_element (pairs_left l.fn.names))
