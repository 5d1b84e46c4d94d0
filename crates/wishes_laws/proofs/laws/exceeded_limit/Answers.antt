use Rattle.wishes_laws.proofs.Files.{limit-reported, no-memory}
use Rattle.wishes_laws.proofs.laws.exceeded_limit.Goals as goal

pub returns-clause-limit : goal.returns-clause-limit
returns-clause-limit c = limit-reported

pub returns-clause-memory : goal.returns-clause-memory
returns-clause-memory c = no-memory
