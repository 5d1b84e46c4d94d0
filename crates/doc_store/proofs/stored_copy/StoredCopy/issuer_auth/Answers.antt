use Rattle.std.proofs.Common.{sym}
use Rattle.cbor_view.specs.View.{part}
use Rattle.doc_store.specs.StoredCopy.{copy_part}
use Rattle.doc_store.proofs.PartsLie.{auth-lies}
use Rattle.doc_store.proofs.stored_copy.StoredCopy.issuer_auth.Goals as goal

pub returns-clause-stands_in : goal.returns-clause-stands_in
returns-clause-stands_in c = auth-lies (copy_part c.args.self.now) (part c.in-Some.auth) (sym c.in-Some.ensures)
