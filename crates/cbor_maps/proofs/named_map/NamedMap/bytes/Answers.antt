use Rattle.std.proofs.Common.{sym}
use Rattle.cbor_view.specs.View.{part}
use Rattle.cbor_maps.specs.NamedMap.{whole_map}
use Rattle.cbor_maps.proofs.Within.{bytes-under}
use Rattle.cbor_maps.proofs.named_map.NamedMap.bytes.Goals as goal

pub returns-in-Some-clause-stands_in : goal.returns-in-Some-clause-stands_in
returns-in-Some-clause-stands_in c = bytes-under (whole_map c.args.self.now) (part c.in-Once.value) c.args.name c.in-Some.read.now (sym c.in-Once.ensures) (sym c.in-Some.ensures)
