use Rattle.round_model.proofs.AlikeLemmas.{are_rounds_alike, are_sessions_alike}
use Rattle.round_model.proofs.laws.ends_are_alike.Goals as goal

pub returns-clause-rounds : goal.returns-clause-rounds
returns-clause-rounds g c = are_rounds_alike _ _ _

pub returns-clause-sessions : goal.returns-clause-sessions
returns-clause-sessions g c = are_sessions_alike _ _ _ _
