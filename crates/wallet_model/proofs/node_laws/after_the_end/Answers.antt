use Rattle.wallet_model.proofs.Taken.{is_after_end}
use Rattle.wallet_model.proofs.node_laws.after_the_end.Goals as goal

pub returns : goal.returns
returns c = is_after_end
