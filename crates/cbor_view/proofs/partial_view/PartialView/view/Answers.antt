use Rattle.std.proofs.Common.{arith}
use Rattle.cbor_view.specs.PartialView.{rest_of_file}
use Rattle.cbor_view.proofs.PartialFaults.{left-after, view-whole, view-none}
use Rattle.cbor_view.proofs.PartialParts.{front-read}
use Rattle.cbor_view.proofs.partial_view.PartialView.view.Goals as goal

pub overflow_sub-self : goal.overflow_sub-self
overflow_sub-self c = (left-after c.args.self.now.levels (rest_of_file c.args.self.now) c.in-Ok.rest.now (record { each = c.args.self.now.each }) c.in-Ok.ensures).within

pub invariant_of-result : goal.invariant_of-result
invariant_of-result c =
    let r = c.args.self.now.in_range in
    record {
      spelled = rw c.split_at.ensures.front (front-read c.args.self.now.levels (rest_of_file c.args.self.now) c.in-Ok.rest.now c.args.self.now.most (record { each = c.args.self.now.each }) c.in-Ok.ensures);
      in_range = omega (arith, c.split_at.ensures.front_len, r);
    }

pub returns-in-Ok : goal.returns-in-Ok
returns-in-Ok c = rw c.split_at.ensures.front (view-whole c.args.self.now.levels (rest_of_file c.args.self.now) c.in-Ok.rest.now c.in-Ok.ensures)

pub returns-in-Err : goal.returns-in-Err
returns-in-Err c = view-none c.args.self.now.levels (rest_of_file c.args.self.now) _ (record { each = c.args.self.now.each }) c.in-Err.ensures
