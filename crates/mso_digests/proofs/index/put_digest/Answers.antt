use Rattle.std.proofs.Common.{sym, ◌∙◌}
use Rattle.mso_digests.proofs.IndexedDigests.{one_added, one_there}
use Rattle.mso_digests.proofs.index.put_digest.Goals as goal

pub returns-in_ok-insert : goal.returns-in_ok-insert
returns-in_ok-insert c = one_added c.args.numbers.now c.insert.new.self c.args.number c.args.digest (sym c.contains_key.ensures ∙ c.if-not-contains_key.true) c.in_ok-insert.ensures.updates

pub returns-else-not-contains_key : goal.returns-else-not-contains_key
returns-else-not-contains_key c = one_there c.args.numbers.now c.args.number c.args.digest.now (sym c.contains_key.ensures ∙ c.if-not-contains_key.false)
