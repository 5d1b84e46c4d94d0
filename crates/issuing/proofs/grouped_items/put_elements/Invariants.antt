use Rattle.std.proofs.Common.{◌≡◌, ◌≤◌, ◌++◌, drop, take}
use Rattle.issuing.specs.IssuedItems.{items_after, items_of, count_in_namespace}
use Rattle.issuing.specs.Groups.{namespace_bytes}
use Rattle.issuing.proofs.grouped_items.put_elements.Given as goal

-- with those of the elements that are left they will be all
abbrev pub invariant-loop-place : goal.invariant-loop-place
invariant-loop-place l = record {
  written : l.build ++ namespace_bytes l.ns (items_after (take l.place l.elements) (drop l.place l.elements) (drop l.place l.salts)) ≡ l.initial.build ++ namespace_bytes l.ns (items_of l.elements l.salts);
  number : l.number ≡ count_in_namespace l.ns (take l.place l.elements);
  few : l.number ≤ l.place;
}
