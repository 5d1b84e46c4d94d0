use Rattle.std.proofs.Common.{◌≡◌, ◌++◌, map, take}
use Rattle.std.specs.Prelude.{flat_map}
use Rattle.doc_response.specs.AnsweredView.{item_seen}
use Rattle.doc_response.specs.Answered.{of_namespace}
use Rattle.doc_response.proofs.groups.append_namespace.Given as goal

-- the items so far
abbrev pub invariant-loop-item : goal.invariant-loop-item
invariant-loop-item l = l.build ≡ l.initial.build ++ flat_map (λ part. part) (of_namespace (map item_seen (take l.item-index l.items)) l.ns).1
