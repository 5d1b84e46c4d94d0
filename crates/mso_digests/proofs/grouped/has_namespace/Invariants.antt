use Rattle.std.proofs.Common.{◌≡◌, drop}
use Rattle.mso_digests.specs.Written.{has_namespace}
use Rattle.mso_digests.proofs.grouped.has_namespace.Given as goal

-- the digests that are left tell what all of them tell
abbrev pub invariant-loop-digest : goal.invariant-loop-digest
invariant-loop-digest l = has_namespace l.namespace (drop l.digest-index l.digests) ≡ has_namespace l.namespace l.digests
