use Rattle.std.proofs.Common.{◌≡◌, map, take}
use Rattle.doc_response.specs.Namespaces.{texts}
use Rattle.issuing.specs.Groups.{ns_of}
use Rattle.issuing.proofs.namespaces.namespaces.Given as goal

-- the namespaces so far
abbrev pub invariant-loop-element : goal.invariant-loop-element
invariant-loop-element l = texts l.all.items ≡ map ns_of (take l.element-index l.elements)
