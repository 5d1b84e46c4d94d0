use Rattle.std.proofs.Common.{◌≡◌, length}
use Rattle.std.specs.Prelude.{filter_map}
use Rattle.cbor_view.specs.Pairs.{pairs_left}
use Rattle.doc_request.specs.Spaces.{element}
use Rattle.doc_request.specs.Views.{names_left}
use Rattle.doc_request.proofs.elements.first_element.Given as goal

-- the entries that are left ask for what all of them do
abbrev pub invariant-loop-name : goal.invariant-loop-name
invariant-loop-name l = filter_map (element l.ns) (pairs_left l.names) ≡ filter_map (element l.ns) (names_left l.fn.names)

abbrev pub decreases-loop-name : goal.decreases-loop-name
decreases-loop-name l = length (pairs_left l.names)
