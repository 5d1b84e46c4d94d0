use Rattle.cbor_view.proofs.FirstFaultLaws.{faultless-item, item-faultless}
use Rattle.cbor_view.proofs.laws.faultless_is_item.Goals as goal

pub returns : goal.returns
returns c = λ bytes each. (λ none. faultless-item bytes (record { each = each }) none, λ i. item-faultless bytes i)
