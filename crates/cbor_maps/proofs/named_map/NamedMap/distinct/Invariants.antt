use Rattle.std.proofs.Common.{◌≡◌, drop}
use Rattle.cbor_maps.specs.Reading.{distinct}
use Rattle.cbor_maps.specs.NamedMap.{whole_map, names_of}
use Rattle.cbor_maps.proofs.named_map.NamedMap.distinct.Given as goal

-- the names that are left tell what all of them tell
abbrev pub invariant-loop-place : goal.invariant-loop-place
invariant-loop-place l = distinct (drop l.place (names_of l.self)) (whole_map l.self) ≡ distinct (names_of l.self) (whole_map l.self)
