use Rattle.cbor_maps.proofs.WrittenMaps.{named-map}
use Rattle.cbor_maps.proofs.laws.named_map_is_spelled.Goals as goal

pub returns : goal.returns
returns c = named-map
