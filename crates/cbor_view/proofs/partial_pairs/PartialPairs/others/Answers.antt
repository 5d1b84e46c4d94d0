use Rattle.cbor_view.specs.PartialView.{rest_of_file, with_levels}
use Rattle.cbor_view.proofs.PartialFaults.{pairs-next, pairs-only-value, pairs-last-value, pairs-last-key}
use Rattle.cbor_view.proofs.partial_pairs.PartialPairs.others.Goals as goal

pub returns-in_default : goal.returns-in_default
returns-in_default c = pairs-last-key c.args.self.now.front.levels c.args.self.now.count (rest_of_file c.args.self.now.front) (rest_of_file c.args.self.now.front) c.requires c.in_default.ensures

pub returns-then-self-eq1 : goal.returns-then-self-eq1
returns-then-self-eq1 c = pairs-only-value c.args.self.now.front.levels c.args.self.now.count (rest_of_file c.args.self.now.front) (rest_of_file c.args.self.now.front) (with_levels c.in-Some.value) c.if-self-eq1.true c.in-Some.ensures

pub returns-in-Some-following : goal.returns-in-Some-following
returns-in-Some-following c = pairs-next c.args.self.now.front.levels c.args.self.now.count (rest_of_file c.args.self.now.front) (with_levels c.in-Some.value) (with_levels c.in-Some-following.front) c.requires c.in-Some.ensures c.in-Some-following.ensures

pub returns-in-None : goal.returns-in-None
returns-in-None c = pairs-last-value c.args.self.now.front.levels c.args.self.now.count (rest_of_file c.args.self.now.front) (rest_of_file c.args.self.now.front) (with_levels c.in-Some.value) c.requires c.in-Some.ensures c.in-None.ensures
