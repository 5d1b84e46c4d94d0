use Rattle.std.proofs.Common.{sym}
use Rattle.cbor_view.specs.Items.{left}
use Rattle.cbor_view.specs.View.{part}
use Rattle.doc_store.specs.Store.{document}
use Rattle.doc_store.specs.Document.{no_document}
use Rattle.doc_store.specs.StoreView.{whole_file}
use Rattle.doc_store.proofs.PartsLie.{part-at}
use Rattle.doc_store.proofs.Readers.{each_at, none_at}
use Rattle.doc_store.proofs.store.Store.document.Goals as goal

pub unreachable-requires : goal.unreachable-requires
unreachable-requires c = none_at document (left c.stored_documents.result) _ c.args.n c.stored_documents.ensures.given c.requires (sym c.in-None.ensures)

pub invariant_of-result : goal.invariant_of-result
invariant_of-result c =
    record { spelled = (each_at document no_document (left c.stored_documents.result) _ c.args.n (part c.in-Some.stored) c.stored_documents.ensures.given (sym c.in-Some.ensures)).read }

pub returns-clause-exact : goal.returns-clause-exact
returns-clause-exact c = (each_at document no_document (left c.stored_documents.result) _ c.args.n (part c.in-Some.stored) c.stored_documents.ensures.given (sym c.in-Some.ensures)).given

pub returns-clause-stands_in : goal.returns-clause-stands_in
returns-clause-stands_in c = part-at (whole_file c.args.self.now) (left c.stored_documents.result) c.args.n (part c.in-Some.stored) c.stored_documents.ensures.lie (sym c.in-Some.ensures)
