use Rattle.verdict_model.proofs.AcceptedElements.{are_accepted_signed}
use Rattle.verdict_model.proofs.laws.accepted_is_signed.Goals as goal

pub returns : goal.returns
returns c = are_accepted_signed
