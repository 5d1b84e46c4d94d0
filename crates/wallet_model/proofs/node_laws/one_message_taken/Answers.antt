use Rattle.wallet_model.proofs.Taken.{is_answered, is_round_end}
use Rattle.wallet_model.proofs.node_laws.one_message_taken.Goals as goal

pub returns-clause-ended : goal.returns-clause-ended
returns-clause-ended c = is_round_end

pub returns-clause-answered : goal.returns-clause-answered
returns-clause-answered c = is_answered
