use Rattle.cbor_view.specs.PartialView.{rest_of_file}
use Rattle.cbor_view.proofs.PartialOpening.{pairs-open, no-map, map-closed}
use Rattle.cbor_view.proofs.partial_view.PartialView.pairs.Goals as goal

pub returns-in_default : goal.returns-in_default
returns-in_default c = map-closed c.args.self.now.levels (rest_of_file c.args.self.now) c.args.self.now.most (record { each = c.args.self.now.each }) c.in_default.ensures

pub returns-in-Some-map_count : goal.returns-in-Some-map_count
returns-in-Some-map_count c = pairs-open c.args.self.now.levels (rest_of_file c.args.self.now) c.in-Some.head c.in-Some.front.levels (rest_of_file c.in-Some.front) c.in-Some-map_count.count c.args.self.now.most (record { each = c.args.self.now.each }) c.in-Some.ensures c.in-Some-map_count.ensures

pub returns-in-None : goal.returns-in-None
returns-in-None c = no-map c.args.self.now.levels (rest_of_file c.args.self.now) c.in-Some.head c.in-Some.front.levels (rest_of_file c.in-Some.front) c.args.self.now.most (record { each = c.args.self.now.each }) c.in-Some.ensures c.in-None.ensures
