use Rattle.verdict_laws.proofs.FirstFailure.{are_refused_by_first_failure}
use Rattle.verdict_laws.proofs.document_laws.refused_document_fails_first.Goals as goal

pub returns : goal.returns
returns c = are_refused_by_first_failure
