use Rattle.certificate_laws.proofs.Faulty.{faultless}
use Rattle.certificate_laws.proofs.laws.faultless_is_certificate.Goals as goal

pub returns : goal.returns
returns c = faultless
