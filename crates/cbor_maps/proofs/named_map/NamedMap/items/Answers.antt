use Rattle.std.proofs.Common.{sym}
use Rattle.cbor_view.specs.Items.{left}
use Rattle.cbor_view.specs.View.{part}
use Rattle.cbor_maps.specs.NamedMap.{whole_map}
use Rattle.cbor_maps.proofs.Within.{items-under}
use Rattle.cbor_maps.proofs.named_map.NamedMap.items.Goals as goal

pub returns-in-Some-clause-stands_in : goal.returns-in-Some-clause-stands_in
returns-in-Some-clause-stands_in c = items-under (whole_map c.args.self.now) (part c.in-Once.value) c.args.name (left c.in-Some.read) (sym c.in-Once.ensures) (sym c.in-Some.ensures.place)
