use Rattle.std.proofs.Common.{◌≡◌, drop, map}
use Rattle.mso_digests.specs.Written.{digest_pair, group}
use Rattle.mso_digests.specs.WrittenSteps.{put_all}
use Rattle.mso_digests.proofs.grouped.append_digests.Given as goal

-- with those that are left it will be all
abbrev pub invariant-loop-digest : goal.invariant-loop-digest
invariant-loop-digest l =
    put_all l.out (map digest_pair (group l.namespace (drop l.digest-index l.digests))) ≡ put_all l.fn.out (map digest_pair (group l.namespace l.digests))
