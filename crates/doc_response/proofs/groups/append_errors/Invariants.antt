use Rattle.std.proofs.Common.{◌≡◌, ◌++◌, ℕ, List, map, take}
use Rattle.std.specs.Prelude.{flat_map}
use Rattle.doc_response.specs.AnsweredView.{element_seen}
use Rattle.doc_response.specs.Answered.{of_namespace, errors_entry}
use Rattle.doc_response.specs.Namespaces.{entry_bytes}
use Rattle.doc_response.specs.Namespaces.{texts}
use Rattle.doc_response.proofs.groups.append_errors.Given as goal

-- the namespaces so far
abbrev pub invariant-loop-element : goal.invariant-loop-element
invariant-loop-element l = texts l.all.items ≡ map (λ (pair : List ℕ × List ℕ). pair.0) (map element_seen (take l.element-index l.missing))

-- the entries so far
abbrev pub invariant-loop-ns : goal.invariant-loop-ns
invariant-loop-ns l =
    l.build ≡ l.initial.build ++ flat_map entry_bytes (map errors_entry (map (of_namespace (map element_seen l.missing)) (texts (take l.ns-index l.ns-items))))
