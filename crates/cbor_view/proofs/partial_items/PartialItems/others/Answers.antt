use Rattle.std.proofs.Common.{refl}
use Rattle.cbor_view.specs.PartialView.{rest_of_file, with_levels}
use Rattle.cbor_view.proofs.PartialFaults.{items-next, items-last, items-only}
use Rattle.cbor_view.proofs.partial_items.PartialItems.others.Goals as goal

pub returns-then-self-eq1 : goal.returns-then-self-eq1
returns-then-self-eq1 c = items-only c.args.self.now.front.levels c.args.self.now.count (rest_of_file c.args.self.now.front) (rest_of_file c.args.self.now.front) c.if-self-eq1.true

pub returns-in-Some : goal.returns-in-Some
returns-in-Some c = items-next c.args.self.now.front.levels c.args.self.now.count (rest_of_file c.args.self.now.front) (with_levels c.in-Some.front) c.requires c.in-Some.ensures

pub returns-in-None : goal.returns-in-None
returns-in-None c = items-last c.args.self.now.front.levels c.args.self.now.count (rest_of_file c.args.self.now.front) (rest_of_file c.args.self.now.front) 0 c.requires c.in-None.ensures refl
