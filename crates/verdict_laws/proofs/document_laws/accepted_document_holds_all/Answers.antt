use Rattle.verdict_laws.proofs.FirstFailure.{are_accepted_where_all_hold}
use Rattle.verdict_laws.proofs.document_laws.accepted_document_holds_all.Goals as goal

pub returns : goal.returns
returns c = are_accepted_where_all_hold
