use Rattle.cbor_view.proofs.WholeReading.{no-prefix}
use Rattle.cbor_view.proofs.laws.no_prefix.Goals as goal

pub returns : goal.returns
returns c = no-prefix
