use Rattle.std.proofs.Common.{◌≡◌, ◌++◌, take}
use Rattle.std.specs.Prelude.{flat_map}
use Rattle.store_write.proofs.package.put_copies.Given as goal

-- the copies so far
abbrev pub invariant-loop-copy : goal.invariant-loop-copy
invariant-loop-copy l = l.build ≡ l.initial.build ++ flat_map (λ part. part) (take l.copy-index l.copies)
