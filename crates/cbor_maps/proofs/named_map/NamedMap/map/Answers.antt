use Rattle.std.proofs.Common.{sym}
use Rattle.cbor_view.specs.View.{part}
use Rattle.cbor_maps.specs.NamedMap.{whole_map}
use Rattle.cbor_maps.proofs.Within.{map-under}
use Rattle.cbor_maps.proofs.named_map.NamedMap.map.Goals as goal

pub returns-in-Some-clause-stands_in : goal.returns-in-Some-clause-stands_in
returns-in-Some-clause-stands_in c = map-under (whole_map c.args.self.now) (part c.in-Once.value) (part c.in-Some.read) c.args.name (sym c.in-Once.ensures) (sym c.in-Some.ensures)
