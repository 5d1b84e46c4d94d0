use denote.Shadow.{shadow}
use denote.Text.{Utf8}
use Rattle.std.proofs.Common.{◌≡◌, ◌++◌, [], length, true}
use Rattle.std.specs.Prelude.{is_some, unwrap_or}
use Rattle.std.specs.List.{flat_map}
use Rattle.cbor_view.specs.Pairs.{pairs_left}
use Rattle.mdoc_outside.specs.OptionSteps.{each}
use Rattle.doc_store.specs.CopyItems.{copy_items_left}
use Rattle.doc_store.specs.SpaceItems.{beside, parts_of}
use Rattle.doc_store.specs.Store.{namespace, spread}
use Rattle.doc_store.proofs.copy_items.CopyItemsIterator.next.Given as goal

-- what is left of the namespace that was begun, and the namespaces after it, are all that was left
abbrev pub invariant-spaces : goal.invariant-spaces
invariant-spaces l =
    shadow (Utf8 l.ns) ×
    (is_some (each namespace (pairs_left l.spaces)) ≡ true) ×
    (beside l.ns (parts_of l.items) ++ flat_map spread (unwrap_or (each namespace (pairs_left l.spaces)) []) ≡ copy_items_left l.fn.self)

abbrev pub decreases-spaces : goal.decreases-spaces
decreases-spaces l = length (pairs_left l.spaces)
