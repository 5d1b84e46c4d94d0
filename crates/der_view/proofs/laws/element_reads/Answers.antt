use Rattle.der_view.proofs.Elements.{element-reads}
use Rattle.der_view.proofs.laws.element_reads.Goals as goal

pub returns : goal.returns
returns c = λ tag body is fits. element-reads tag body is
