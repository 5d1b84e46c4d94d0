use Rattle.std.proofs.Common.{◌≡◌, ◌++◌, drop, take}
use Rattle.issuing.specs.IssuedItems.{entries_of, items_after, items_of}
use Rattle.issuing.proofs.digests.item_digests.Given as goal

-- with those of the elements that are left they will be all
abbrev pub invariant-loop-place : goal.invariant-loop-place
invariant-loop-place l =
    l.entries.items ++ entries_of (items_after (take l.place l.elements) (drop l.place l.elements) (drop l.place l.salts)) ≡ entries_of (items_of l.elements l.salts)
