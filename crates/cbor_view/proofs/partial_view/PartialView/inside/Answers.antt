use Rattle.std.proofs.Common.{arith}
use Rattle.cbor_view.proofs.PartialFaults.{leaves-head}
use Rattle.cbor_view.proofs.partial_view.PartialView.inside.Goals as goal

pub overflow_sub-front : goal.overflow_sub-front
overflow_sub-front c = (leaves-head c.args.self.now.rest.now c.in-Ok.rest.now c.in-Ok.head (record { each = c.args.self.now.each }) c.in-Ok.ensures).within

pub invariant_of-front : goal.invariant_of-front
invariant_of-front c =
    let l = leaves-head c.args.self.now.rest.now c.in-Ok.rest.now c.in-Ok.head (record { each = c.args.self.now.each }) c.in-Ok.ensures in
    let w = l.within in
    let r = c.args.self.now.in_range in
    let m = c.args.self.now.most in
    record { in_range = omega arith; most = omega arith; each = l.are.each }
