use Rattle.std.proofs.Common.{length}
use Rattle.plain_wallet.proofs.rounds.+rounds_after.Given as goal

-- each message is taken off
abbrev pub decreases-rounds_after : goal.decreases-rounds_after
decreases-rounds_after g l = length l.messages.now
