use Rattle.wishes_laws.proofs.Files.{line-reported, line-found}
use Rattle.wishes_laws.proofs.laws.first_bad_line.Goals as goal

pub returns-clause-reported : goal.returns-clause-reported
returns-clause-reported c = line-reported

pub returns-clause-found : goal.returns-clause-found
returns-clause-found c = line-found
