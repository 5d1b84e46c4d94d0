-- What the items of a copy have left.
use Rattle.std.specs.Prelude.{ℕ, List, [], ◌++◌, unwrap_or}
use Rattle.std.specs.List.{flat_map}
use Rattle.cbor_view.specs.Pairs.{pairs_left}
use Rattle.mdoc_outside.specs.OptionSteps.{each}
use Rattle.doc_store.specs.declared.copy_items.CopyItems.{CopyItems}
use Rattle.doc_store.specs.SpaceItems.{beside, parts_of}
use Rattle.doc_store.specs.Store.{namespace, spread}

-- those that are left of the namespace that was begun, and then those of the namespaces after it
abbrev pub copy_items_left : CopyItems → List (List ℕ × List ℕ)
copy_items_left c = beside c.ns.now (parts_of c.items) ++ flat_map spread (unwrap_or (each namespace (pairs_left c.spaces)) [])
