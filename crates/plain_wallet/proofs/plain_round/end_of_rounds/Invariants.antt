use Rattle.std.proofs.Common.{◌≡◌, drop}
use Rattle.round_model.specs.Rounds.{end_of_rounds}
use Rattle.plain_wallet.proofs.plain_round.end_of_rounds.Given as goal

-- none of the rounds so far ended the session
abbrev pub invariant-loop-round : goal.invariant-loop-round
invariant-loop-round l = end_of_rounds (drop l.round-index l.rounds) ≡ end_of_rounds l.rounds
