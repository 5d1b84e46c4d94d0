use Rattle.std.proofs.Common.{◌≡◌, drop}
use Rattle.cert_view.specs.Cert.{fields}
use Rattle.root_trust.specs.Names.{has_named_root}
use Rattle.root_trust.proofs.names.has_named_root.Given as goal

-- the roots that are left tell what all of them tell
abbrev pub invariant-loop-root : goal.invariant-loop-root
invariant-loop-root l = has_named_root (fields l.cert) (drop l.root-index l.roots) ≡ has_named_root (fields l.cert) l.roots
