use Rattle.wallet_model.proofs.Taken.{is_list_end, is_quiet}
use Rattle.wallet_model.proofs.node_laws.no_message_taken.Goals as goal

pub returns-clause-quiet : goal.returns-clause-quiet
returns-clause-quiet c = is_quiet

pub returns-clause-ended : goal.returns-clause-ended
returns-clause-ended c = is_list_end
