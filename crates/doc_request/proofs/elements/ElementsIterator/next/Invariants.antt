use denote.Shadow.{shadow}
use denote.Text.{Utf8}
use Rattle.std.proofs.Common.{◌≡◌, ◌++◌, length}
use Rattle.std.specs.Prelude.{filter_map}
use Rattle.cbor_view.specs.Pairs.{pairs_left}
use Rattle.doc_request.specs.Spaces.{element, elements}
use Rattle.doc_request.specs.Views.{elements_left, names_left}
use Rattle.doc_request.proofs.elements.ElementsIterator.next.Given as goal

-- what is left of the namespace that was begun, and the namespaces after it, are all that was left
abbrev pub invariant-spaces : goal.invariant-spaces
invariant-spaces l =
    shadow (Utf8 l.ns) ×
    (filter_map (element l.ns) (names_left l.names) ++ elements (pairs_left l.spaces) ≡ elements_left l.fn.self)

abbrev pub decreases-spaces : goal.decreases-spaces
decreases-spaces l = length (pairs_left l.spaces)
