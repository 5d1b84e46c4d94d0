use Rattle.std.proofs.Common.{◌≡◌, ◌+◌, ◌≤◌, drop, take, length, map}
use Rattle.mso_digests.specs.Written.{namespace_pair, namespaces, namespaces_after}
use Rattle.mso_digests.specs.WrittenSteps.{put_all}
use Rattle.mso_digests.proofs.grouped.append_namespaces.Given as goal

-- with those that are left it will be all
abbrev pub invariant-loop-place : goal.invariant-loop-place
invariant-loop-place l = record {
  written : put_all l.out (map (namespace_pair l.digests) (namespaces_after (take l.place l.digests) (drop l.place l.digests))) ≡ put_all l.fn.out (map (namespace_pair l.digests) (namespaces l.digests));
  counted : l.count + length (namespaces_after (take l.place l.digests) (drop l.place l.digests)) ≡ length (namespaces l.digests);
  few : l.count ≤ l.place;
}
