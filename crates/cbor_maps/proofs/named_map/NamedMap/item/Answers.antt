use Rattle.std.proofs.Common.{sym}
use Rattle.cbor_view.specs.View.{part}
use Rattle.cbor_maps.specs.NamedMap.{whole_map}
use Rattle.cbor_maps.proofs.Within.{under-lies}
use Rattle.cbor_maps.proofs.named_map.NamedMap.item.Goals as goal

pub returns-in-Once-clause-stands_in : goal.returns-in-Once-clause-stands_in
returns-in-Once-clause-stands_in c = under-lies (whole_map c.args.self.now) (part c.in-Once.value) c.args.name (sym c.in-Once.ensures)
