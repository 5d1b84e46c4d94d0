-- What the errors of document types have left.
use Rattle.std.specs.Prelude.{ℕ, List, ◌++◌}
use Rattle.std.specs.Borrow.{Bor}
use Rattle.cbor_view.specs.declared.view.View.{View}
use Rattle.cbor_view.specs.Parts.{Part}
use Rattle.cbor_view.specs.View.{part}
use Rattle.doc_response.specs.declared.response_errors.ResponseErrors.{ResponseErrors}
use Rattle.doc_response.specs.ResponseView.{errors_of, errors_of_all, items_or_none, pairs_or_none}

abbrev pub error_seen : Bor (List ℕ) × View → List ℕ × Part
error_seen e = (e.0.now, part e.1)

-- those that are left of the map that was begun, and then those of the maps after it
abbrev pub errors_left : ResponseErrors → List (List ℕ × Part)
errors_left it = errors_of (pairs_or_none it.errors) ++ errors_of_all (items_or_none it.maps)
