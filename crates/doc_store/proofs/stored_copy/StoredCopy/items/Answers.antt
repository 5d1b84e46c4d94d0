use Rattle.cbor_view.specs.Pairs.{pairs_left}
use Rattle.doc_store.specs.StoredCopy.{copy_part}
use Rattle.doc_store.proofs.PartsLie.{item-parts}
use Rattle.doc_store.proofs.stored_copy.StoredCopy.items.Goals as goal

pub returns-clause-lie : goal.returns-clause-lie
returns-clause-lie c = item-parts (copy_part c.args.self.now) (pairs_left c.spaces-spaces.result) c.spaces-spaces.ensures.lie c.spaces-spaces.ensures.read
