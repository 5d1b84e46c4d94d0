use Rattle.std.proofs.Common.{sym}
use Rattle.cbor_view.specs.Pairs.{pairs_left}
use Rattle.doc_store.specs.StoredCopy.{copy_part}
use Rattle.doc_store.proofs.PartsLie.{spaces-lie}
use Rattle.doc_store.proofs.stored_copy.StoredCopy.spaces.Goals as goal

pub returns-clause-lie : goal.returns-clause-lie
returns-clause-lie c = spaces-lie (copy_part c.args.self.now) (pairs_left c.in-Some.spaces) (sym c.in-Some.ensures)
