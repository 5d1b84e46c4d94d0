use Rattle.cbor_view.proofs.FirstFaultLaws.{read-first, first-read}
use Rattle.cbor_view.proofs.laws.first_fault.Goals as goal

pub returns : goal.returns
returns c = λ bytes fault each. (λ e. read-first bytes fault (record { each = each }) e, λ f. first-read bytes fault (record { each = each }) f)
