-- What the items of a document have left.
use Rattle.std.specs.Prelude.{ℕ, List, ◌++◌}
use Rattle.std.specs.Borrow.{Bor}
use Rattle.cbor_view.specs.declared.view.View.{View}
use Rattle.cbor_view.specs.Parts.{Part}
use Rattle.cbor_view.specs.View.{part}
use Rattle.doc_response.specs.declared.response_items.ResponseItems.{ResponseItems}
use Rattle.doc_response.specs.Response.{spread_all}
use Rattle.doc_response.specs.ResponseView.{beside, items_or_none, namespaces_of, pairs_or_none}

abbrev pub item_seen : Bor (List ℕ) × View → List ℕ × Part
item_seen e = (e.0.now, part e.1)

-- those that are left of the namespace that was begun, and then those of the namespaces after it
abbrev pub items_left : ResponseItems → List (List ℕ × Part)
items_left it = beside it.ns.now (items_or_none it.items) ++ spread_all (namespaces_of (pairs_or_none it.namespaces))
