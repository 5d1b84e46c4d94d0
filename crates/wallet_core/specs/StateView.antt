-- What contracts see of where a session is.
use Rattle.std.specs.Prelude.{Option, Some, None}
use Rattle.session_seal.specs.declared.wallet_end.WalletEnd.{WalletEnd}
use Rattle.session_seal.specs.declared.wallet_end.WalletEnd.TheVariants as ends
use Rattle.wallet_model.specs.Stands as states
use Rattle.wallet_model.specs.Stands.{NodeState}
use Rattle.wallet_core.specs.declared.after_round.AfterRound.{AfterRound}
use Rattle.wallet_core.specs.declared.after_round.AfterRound.TheVariants as rounds
use Rattle.wallet_core.specs.declared.state.State.{State}
use Rattle.wallet_core.specs.declared.state.State.TheVariants.{Engaged, Open, Ended, Spent}

abbrev pub state_seen : State → NodeState
state_seen (Engaged start) = states.Engaged start
state_seen (Open session) = states.Open session
state_seen (Ended end) = states.Ended end
state_seen Spent = states.Spent

-- the end of a session that doesn't go on
abbrev pub over_end : NodeState → Option WalletEnd
over_end (states.Engaged start) = None
over_end (states.Open session) = None
over_end (states.Ended end) = Some end
over_end states.Spent = Some ends.Spent

-- where a session is after a round
abbrev pub after_state : AfterRound → NodeState
after_state (rounds.Open session) = states.Open session
after_state (rounds.Ended end) = states.Ended end
