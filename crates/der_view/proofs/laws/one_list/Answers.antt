use Rattle.der_view.proofs.OneList.{one-list}
use Rattle.der_view.proofs.laws.one_list.Goals as goal

pub returns : goal.returns
returns c = λ p xs ys. one-list xs ys p
