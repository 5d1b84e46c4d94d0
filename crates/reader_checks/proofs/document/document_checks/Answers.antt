use Rattle.reader_checks.proofs.DocumentCauses.{cause_of}
use Rattle.reader_checks.proofs.document.document_checks.Goals as goal

pub returns-clause-cause : goal.returns-clause-cause
returns-clause-cause g c = cause_of _ c.issued_and_shown.ensures.counts
