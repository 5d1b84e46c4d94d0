use Rattle.cbor_maps.proofs.WrittenMaps.{written-field}
use Rattle.cbor_maps.proofs.laws.written_field_is_read.Goals as goal

pub returns : goal.returns
returns c = written-field
