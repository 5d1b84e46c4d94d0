use Rattle.std.proofs.Common.{None}
use Rattle.mso_digests.proofs.IndexedDigests.{one_changed}
use Rattle.mso_digests.proofs.index.DigestIndex.take.Goals as goal

pub returns-in-Some-clause-left : goal.returns-in-Some-clause-left
returns-in-Some-clause-left c = one_changed c.args.self.now.namespaces c.remove.new.self c.args.name.now None c.remove.ensures.updates
