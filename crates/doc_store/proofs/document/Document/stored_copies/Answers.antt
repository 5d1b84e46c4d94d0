use Rattle.std.proofs.Common.{sym}
use Rattle.cbor_view.specs.Items.{left}
use Rattle.mdoc_outside.specs.declared.key_name.KeyName.TheVariants as keys
use Rattle.doc_store.specs.Document.{document_part}
use Rattle.doc_store.proofs.PartsLie.{list-lies}
use Rattle.doc_store.proofs.document.Document.stored_copies.Goals as goal

pub returns-clause-lie : goal.returns-clause-lie
returns-clause-lie c = list-lies keys.Copies 1 64 (document_part c.args.self.now) (left c.in-Some.copies) (sym c.in-Some.ensures)
