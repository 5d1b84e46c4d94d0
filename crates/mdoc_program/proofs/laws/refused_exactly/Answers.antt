use Rattle.mdoc_program.proofs.ExactlyLemmas.{limit_exactly}
use Rattle.mdoc_program.proofs.laws.refused_exactly.Goals as goal

pub returns-clause-limit : goal.returns-clause-limit
returns-clause-limit c = limit_exactly
