use Rattle.std.proofs.Common.{arith}
use Rattle.cbor_view.proofs.Splitting.{depth-read, depth-stops}
use Rattle.cbor_view.proofs.view.depth_of.Goals as goal

pub unreachable-requires : goal.unreachable-requires
unreachable-requires c = depth-stops c.args.item.now c.in-Err.field-0 c.requires c.in-Err.ensures.rest

pub overflow_sub-result : goal.overflow_sub-result
overflow_sub-result c = (depth-read c.args.item.now c.walk.new.fewest (record { each = λ i. omega (arith, c.type_inv.item i) }) c.requires c.in-Ok.ensures.left).within

pub returns : goal.returns
returns c = (depth-read c.args.item.now c.walk.new.fewest (record { each = λ i. omega (arith, c.type_inv.item i) }) c.requires c.in-Ok.ensures.left).depth
