use Rattle.std.proofs.Common.{◌≡◌, ◌++◌, map, take}
use Rattle.std.specs.Prelude.{flat_map}
use Rattle.doc_response.specs.Answered.{namespace_entry, of_namespace}
use Rattle.doc_response.specs.Namespaces.{entry_bytes, texts}
use Rattle.issuing.specs.IssuedItems.{items_of, raw_items}
use Rattle.issuing.proofs.grouped_items.put_grouped_items.Given as goal

-- the entries so far
abbrev pub invariant-loop-ns : goal.invariant-loop-ns
invariant-loop-ns l =
    l.build ≡ l.initial.build ++ flat_map entry_bytes (map namespace_entry (map (of_namespace (raw_items (items_of l.elements l.salts))) (texts (take l.ns-index l.ns-items))))
