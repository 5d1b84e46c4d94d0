use Rattle.std.proofs.Common.{sym}
use Rattle.cbor_view.specs.Items.{left}
use Rattle.cbor_view.specs.View.{part}
use Rattle.doc_store.specs.Store.{copy}
use Rattle.doc_store.specs.StoredCopy.{no_copy}
use Rattle.doc_store.specs.Document.{document_part}
use Rattle.doc_store.proofs.PartsLie.{part-at}
use Rattle.doc_store.proofs.Readers.{each_at, none_at}
use Rattle.doc_store.proofs.document.Document.copy.Goals as goal

pub unreachable-requires : goal.unreachable-requires
unreachable-requires c = none_at copy (left c.stored_copies.result) _ c.args.n c.stored_copies.ensures.given c.requires (sym c.in-None.ensures)

pub invariant_of-result : goal.invariant_of-result
invariant_of-result c =
    record { spelled = (each_at copy no_copy (left c.stored_copies.result) _ c.args.n (part c.in-Some.stored) c.stored_copies.ensures.given (sym c.in-Some.ensures)).read }

pub returns-clause-exact : goal.returns-clause-exact
returns-clause-exact c = (each_at copy no_copy (left c.stored_copies.result) _ c.args.n (part c.in-Some.stored) c.stored_copies.ensures.given (sym c.in-Some.ensures)).given

pub returns-clause-stands_in : goal.returns-clause-stands_in
returns-clause-stands_in c = part-at (document_part c.args.self.now) (left c.stored_copies.result) c.args.n (part c.in-Some.stored) c.stored_copies.ensures.lie (sym c.in-Some.ensures)
