use Rattle.round_model.proofs.GrowLemmas.{rounds_grow}
use Rattle.round_model.proofs.RoundLemmas.{is_one_round_more, is_one_message_more}
use Rattle.round_model.proofs.laws.one_message_more.Goals as goal

pub returns-clause-rounds : goal.returns-clause-rounds
returns-clause-rounds g c = is_one_round_more _ _ _

pub returns-clause-session : goal.returns-clause-session
returns-clause-session g c = is_one_message_more _ _ _ _

pub returns-clause-grow : goal.returns-clause-grow
returns-clause-grow g c = rounds_grow _ _ _
