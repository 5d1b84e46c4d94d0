use Rattle.certificate_laws.proofs.Faulty.{first-fault}
use Rattle.certificate_laws.proofs.laws.first_fault.Goals as goal

pub returns : goal.returns
returns c = first-fault
