use Rattle.doc_store.specs.Store.{store}
use Rattle.doc_store.proofs.StoreParts.{store_given}
use Rattle.doc_store.proofs.store.Store.bytes.Goals as goal

pub returns-clause-spelled : goal.returns-clause-spelled
returns-clause-spelled c = store_given (store c.args.self.now.bytes.now) c.args.self.now.spelled
