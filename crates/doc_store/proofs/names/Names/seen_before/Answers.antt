use Rattle.doc_store.proofs.NameSets.{before_added, after_added}
use Rattle.doc_store.proofs.names.Names.seen_before.Goals as goal

pub returns-clause-before : goal.returns-clause-before
returns-clause-before c = before_added c.args.self.now.seen c.args.name c.in_ok-added.added c.in_ok-added.ensures.added

pub returns-clause-after : goal.returns-clause-after
returns-clause-after c = after_added c.args.self.now.seen c.insert.new.self c.args.name c.in_ok-added.ensures.updates
