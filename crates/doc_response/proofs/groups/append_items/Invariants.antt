use Rattle.std.proofs.Common.{◌≡◌, ◌++◌, ℕ, List, map, take}
use Rattle.std.specs.Prelude.{flat_map}
use Rattle.doc_response.specs.AnsweredView.{item_seen}
use Rattle.doc_response.specs.Answered.{of_namespace, namespace_entry}
use Rattle.doc_response.specs.Namespaces.{entry_bytes}
use Rattle.doc_response.specs.Namespaces.{texts}
use Rattle.doc_response.proofs.groups.append_items.Given as goal

-- the namespaces so far
abbrev pub invariant-loop-item : goal.invariant-loop-item
invariant-loop-item l = texts l.all.items ≡ map (λ (pair : List ℕ × List ℕ). pair.0) (map item_seen (take l.item-index l.items))

-- the entries so far
abbrev pub invariant-loop-ns : goal.invariant-loop-ns
invariant-loop-ns l =
    l.build ≡ l.initial.build ++ flat_map entry_bytes (map namespace_entry (map (of_namespace (map item_seen l.items)) (texts (take l.ns-index l.ns-items))))
