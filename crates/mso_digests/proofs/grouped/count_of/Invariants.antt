use Rattle.std.proofs.Common.{◌≡◌, ◌+◌, ◌≤◌, drop, length}
use Rattle.mso_digests.specs.Written.{group}
use Rattle.mso_digests.proofs.grouped.count_of.Given as goal

-- those counted and those that are left are all
abbrev pub invariant-loop-digest : goal.invariant-loop-digest
invariant-loop-digest l =
    (l.count + length (group l.namespace (drop l.digest-index l.digests)) ≡ length (group l.namespace l.digests)) ×
    (l.count ≤ l.digest-index)
