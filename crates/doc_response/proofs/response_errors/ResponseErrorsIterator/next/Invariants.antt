use Rattle.std.proofs.Common.{◌≡◌, ◌++◌, length, true}
use Rattle.doc_response.specs.ResponseErrors.{errors_left}
use Rattle.doc_response.specs.ResponseView.{are_error_maps, are_errors, errors_of, errors_of_all, items_or_none, pairs_or_none}
use Rattle.doc_response.proofs.response_errors.ResponseErrorsIterator.next.Given as goal

-- what is left of the map that was begun, and the maps after it, are all that was left
abbrev pub invariant-maps : goal.invariant-maps
invariant-maps l =
    (are_errors (pairs_or_none l.errors) ≡ true) ×
    (are_error_maps (items_or_none l.maps) ≡ true) ×
    (errors_of (pairs_or_none l.errors) ++ errors_of_all (items_or_none l.maps) ≡ errors_left l.fn.self)

abbrev pub decreases-maps : goal.decreases-maps
decreases-maps l = length (items_or_none l.maps)
