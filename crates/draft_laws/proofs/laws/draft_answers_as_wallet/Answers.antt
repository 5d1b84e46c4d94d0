use Rattle.draft_laws.proofs.Alike.{are_answered_alike}
use Rattle.draft_laws.proofs.laws.draft_answers_as_wallet.Goals as goal

pub returns : goal.returns
returns c = are_answered_alike
