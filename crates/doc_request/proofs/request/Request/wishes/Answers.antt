use Rattle.std.proofs.Common.{arith}
use Rattle.cbor_view.specs.Items.{left}
use Rattle.doc_request.proofs.FirstFaults.{documents_few}
use Rattle.doc_request.proofs.request.Request.wishes.Goals as goal

pub invariant_of-result : goal.invariant_of-result
invariant_of-result c = rw c.documents-documents.ensures (omega (arith, documents_few (left c.args.self.now.requests), c.args.self.now.few))
