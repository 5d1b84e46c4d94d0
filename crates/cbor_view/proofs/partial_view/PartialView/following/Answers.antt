use Rattle.std.proofs.Common.{arith}
use Rattle.cbor_view.specs.PartialView.{rest_of_file}
use Rattle.cbor_view.proofs.PartialFaults.{left-after}
use Rattle.cbor_view.proofs.partial_view.PartialView.following.Goals as goal

pub overflow_sub-result : goal.overflow_sub-result
overflow_sub-result c = (left-after c.args.self.now.levels (rest_of_file c.args.self.now) c.in-Ok.rest.now (record { each = c.args.self.now.each }) c.in-Ok.ensures).within

pub invariant_of-result : goal.invariant_of-result
invariant_of-result c =
    let l = left-after c.args.self.now.levels (rest_of_file c.args.self.now) c.in-Ok.rest.now (record { each = c.args.self.now.each }) c.in-Ok.ensures in
    let w = l.within in
    let r = c.args.self.now.in_range in
    record { in_range = omega arith; most = c.args.self.now.most; each = l.are.each }
