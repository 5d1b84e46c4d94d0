use Rattle.request_laws.proofs.Grouping.{grouped-permutation}
use Rattle.request_laws.proofs.laws.every_wish_is_kept.Goals as goal

pub returns : goal.returns
returns c = grouped-permutation
