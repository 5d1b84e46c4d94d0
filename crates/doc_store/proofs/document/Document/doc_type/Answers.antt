use Rattle.std.proofs.Common.{sym}
use Rattle.doc_store.specs.Document.{document_part}
use Rattle.doc_store.proofs.PartsLie.{type-part}
use Rattle.doc_store.proofs.document.Document.doc_type.Goals as goal

pub returns-clause-stands_in : goal.returns-clause-stands_in
returns-clause-stands_in c = type-part (document_part c.args.self.now) c.in-Some.doc_type.now (sym c.in-Some.ensures)
