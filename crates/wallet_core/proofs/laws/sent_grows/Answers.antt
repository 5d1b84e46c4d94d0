use Rattle.wallet_core.proofs.SentLemmas.{grows}
use Rattle.wallet_core.proofs.laws.sent_grows.Goals as goal

pub returns : goal.returns
returns c = grows
