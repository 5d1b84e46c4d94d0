use Rattle.cbor_view.proofs.WholeReading.{reads-spells, spells-reads}
use Rattle.cbor_view.proofs.laws.reads_spelled.Goals as goal

pub returns : goal.returns
returns c = λ bytes t each. (λ e. reads-spells bytes t (record { each = each }) e, λ s. spells-reads bytes t s)
