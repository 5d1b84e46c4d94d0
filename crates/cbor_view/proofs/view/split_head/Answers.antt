use Rattle.std.proofs.Common.{arith}
use Rattle.cbor_view.proofs.Splitting.{split-opens, split-fault, split-shorter, split-end}
use Rattle.cbor_view.proofs.view.split_head.Goals as goal

pub unreachable-requires : goal.unreachable-requires
unreachable-requires c = split-fault c.args.item.now c.in-Err.field-0 (record { each = λ i. omega (arith, c.type_inv.item i) }) c.requires c.in-Err.ensures

pub returns-clause-opens : goal.returns-clause-opens
returns-clause-opens c = split-opens c.args.item.now c.in-Ok.split.1.now c.in-Ok.split.0 (record { each = λ i. omega (arith, c.type_inv.item i) }) c.requires c.in-Ok.ensures

pub returns-clause-shorter : goal.returns-clause-shorter
returns-clause-shorter c = split-shorter c.args.item.now c.in-Ok.split.1.now c.in-Ok.split.0 (record { each = λ i. omega (arith, c.type_inv.item i) }) c.in-Ok.ensures

pub returns-clause-end : goal.returns-clause-end
returns-clause-end c = split-end c.args.item.now c.in-Ok.split.1.now c.in-Ok.split.0 (record { each = λ i. omega (arith, c.type_inv.item i) }) c.in-Ok.ensures
