use Rattle.cbor_maps.proofs.LabelledMaps.{written-label}
use Rattle.cbor_maps.proofs.laws.written_label_is_read.Goals as goal

pub returns : goal.returns
returns c = written-label
