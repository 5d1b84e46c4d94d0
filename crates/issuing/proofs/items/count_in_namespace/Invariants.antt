use Rattle.std.proofs.Common.{◌≡◌, ◌+◌, ◌≤◌, drop}
use Rattle.issuing.specs.IssuedItems.{count_in_namespace}
use Rattle.issuing.proofs.items.count_in_namespace.Given as goal

-- those counted and those that are left are all
abbrev pub invariant-loop-element : goal.invariant-loop-element
invariant-loop-element l = record {
  number : l.count + count_in_namespace l.ns (drop l.element-index l.elements) ≡ count_in_namespace l.ns l.elements;
  few : l.count ≤ l.element-index;
}
