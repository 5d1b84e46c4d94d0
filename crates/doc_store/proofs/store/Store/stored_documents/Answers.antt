use Rattle.std.proofs.Common.{subst, sym}
use Rattle.cbor_view.specs.Items.{left}
use Rattle.cbor_view.specs.Parts.{Part, AllLieIn}
use Rattle.cbor_view.specs.View.{part}
use Rattle.mdoc_outside.specs.declared.key_name.KeyName.TheVariants as keys
use Rattle.doc_store.specs.Store.{document}
use Rattle.doc_store.proofs.EachPart.{each_length}
use Rattle.doc_store.proofs.PartsLie.{list-lies, whole-part}
use Rattle.doc_store.proofs.StoreParts.{store_documents, store_spelled}
use Rattle.doc_store.proofs.store.Store.stored_documents.Goals as goal

pub unreachable-requires : goal.unreachable-requires
unreachable-requires c =
    let given = store_documents c.args.self.now.bytes.now (part c.in-Ok.file) c.in-Ok.ensures.whole c.args.self.now.spelled in
    let impossible = rw (← c.in-None.ensures) at given in
    cc

pub unreachable-requires-in-Err : goal.unreachable-requires-in-Err
unreachable-requires-in-Err c = store_spelled c.args.self.now.bytes.now c.in-Err.field-0 c.in-Err.ensures.whole c.args.self.now.spelled

pub returns-clause-given : goal.returns-clause-given
returns-clause-given c =
    let given = store_documents c.args.self.now.bytes.now (part c.in-Ok.file) c.in-Ok.ensures.whole c.args.self.now.spelled in
    rw (← c.in-Some.ensures) at given

pub returns-clause-count : goal.returns-clause-count
returns-clause-count c = each_length document (left c.in-Some.documents) _ (returns-clause-given c)

pub returns-clause-lie : goal.returns-clause-lie
returns-clause-lie c =
    let bytes = c.args.self.now.bytes.now in
    subst (λ (p : Part). AllLieIn p (left c.in-Some.documents)) (whole-part bytes (part c.in-Ok.file) c.in-Ok.ensures.whole)
    (list-lies keys.Documents 0 16 (part c.in-Ok.file) (left c.in-Some.documents) (sym c.in-Some.ensures))
