use Rattle.std.proofs.Common.{◌≡◌, ◌++◌, map, take}
use Rattle.std.specs.Prelude.{flat_map}
use Rattle.doc_response.specs.AnsweredView.{element_seen}
use Rattle.doc_response.specs.Answered.{of_namespace, error_entry}
use Rattle.doc_response.specs.Namespaces.{entry_bytes}
use Rattle.doc_response.proofs.groups.append_namespace_errors.Given as goal

-- the names so far
abbrev pub invariant-loop-element : goal.invariant-loop-element
invariant-loop-element l = l.build ≡ l.initial.build ++ flat_map entry_bytes (map error_entry (of_namespace (map element_seen (take l.element-index l.missing)) l.ns).1)
