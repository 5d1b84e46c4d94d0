use denote.Shadow.{shadow}
use denote.Text.{Utf8}
use Rattle.std.proofs.Common.{◌≡◌, ◌++◌, length, true}
use Rattle.doc_response.specs.Response.{spread_all}
use Rattle.doc_response.specs.ResponseItems.{items_left}
use Rattle.doc_response.specs.ResponseView.{are_namespaces, beside, items_or_none, namespaces_of, pairs_or_none}
use Rattle.doc_response.proofs.response_items.ResponseItemsIterator.next.Given as goal

-- what is left of the namespace that was begun, and the namespaces after it, are all that was left
abbrev pub invariant-namespaces : goal.invariant-namespaces
invariant-namespaces l =
    shadow (Utf8 l.ns) ×
    (are_namespaces (pairs_or_none l.namespaces) ≡ true) ×
    (beside l.ns (items_or_none l.items) ++ spread_all (namespaces_of (pairs_or_none l.namespaces)) ≡ items_left l.fn.self)

abbrev pub decreases-namespaces : goal.decreases-namespaces
decreases-namespaces l = length (pairs_or_none l.namespaces)
