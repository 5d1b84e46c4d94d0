use Rattle.certificate_laws.proofs.Whole.{certificate-is}
use Rattle.certificate_laws.proofs.laws.is_certificate.Goals as goal

pub returns : goal.returns
returns c = certificate-is
