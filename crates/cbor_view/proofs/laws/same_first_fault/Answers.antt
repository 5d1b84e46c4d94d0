use Rattle.cbor_view.proofs.PartialLaws.{read-fault}
use Rattle.cbor_view.proofs.laws.same_first_fault.Goals as goal

pub returns : goal.returns
returns c = λ bytes fault each. read-fault bytes fault (record { each = each })
