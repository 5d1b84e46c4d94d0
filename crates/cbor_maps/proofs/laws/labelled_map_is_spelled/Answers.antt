use Rattle.cbor_maps.proofs.LabelledMaps.{labelled-map}
use Rattle.cbor_maps.proofs.laws.labelled_map_is_spelled.Goals as goal

pub returns : goal.returns
returns c = labelled-map
