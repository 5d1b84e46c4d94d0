use Rattle.certificate_laws.proofs.Lying.{parts-lie}
use Rattle.certificate_laws.proofs.laws.parts_stand_in_bytes.Goals as goal

pub returns : goal.returns
returns c = parts-lie
