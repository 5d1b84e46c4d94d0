-- What contracts see of a map with named keys.
use Rattle.std.specs.Prelude.{List}
use Rattle.mdoc_outside.specs.declared.key_name.KeyName.{KeyName}
use Rattle.cbor_view.specs.Parts.{Part}
use Rattle.cbor_view.specs.View.{part}
use Rattle.cbor_maps.specs.declared.named_map.NamedMap.{NamedMap}

-- the map itself, and the names of its table
abbrev pub whole_map : NamedMap → Part
whole_map m = part m.map

abbrev pub names_of : NamedMap → List KeyName
names_of m = m.names.now
