use Rattle.verdict_model.proofs.AcceptedElements.{are_accepted_requested}
use Rattle.verdict_model.proofs.laws.accepted_is_requested.Goals as goal

pub returns : goal.returns
returns c = are_accepted_requested
