use Rattle.wallet_answer.proofs.DistinctWishes.{are_wishes_distinct}
use Rattle.wallet_answer.proofs.laws.no_wish_twice.Goals as goal

pub returns : goal.returns
returns c = are_wishes_distinct
