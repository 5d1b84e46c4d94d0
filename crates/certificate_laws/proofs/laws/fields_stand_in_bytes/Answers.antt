use Rattle.certificate_laws.proofs.Lying.{fields-lie}
use Rattle.certificate_laws.proofs.laws.fields_stand_in_bytes.Goals as goal

pub returns : goal.returns
returns c = fields-lie
