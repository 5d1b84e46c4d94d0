use Rattle.std.proofs.Common.{arith}
use Rattle.der_view.specs.Der.{part}
use Rattle.der_view.proofs.Listing.{whole-exact, goes-on, der-goes-on, whole-fault, der-fault}
use Rattle.der_view.proofs.der.Der.read.Goals as goal

pub returns-in-Ok-default-empty-clause-exact : goal.returns-in-Ok-default-empty-clause-exact
returns-in-Ok-default-empty-clause-exact c = whole-exact c.args.bytes.now c.in-Ok-default-empty.field-0-1.now (part c.in-Ok-default-empty.element) (record { each = λ i. omega (arith, c.type_inv.bytes i) }) c.in-Ok-default-empty.ensures.read c.in-Ok-default-empty.len_below

pub returns-in-Ok-clause-exact : goal.returns-in-Ok-clause-exact
returns-in-Ok-clause-exact c = goes-on c.args.bytes.now c.in-Ok.field-0-1.now (part c.in-Ok.element) (record { each = λ i. omega (arith, c.type_inv.bytes i) }) c.in-Ok.ensures.read c.in-Ok.len_at_least

pub returns-in-Ok-clause-whole : goal.returns-in-Ok-clause-whole
returns-in-Ok-clause-whole c = der-goes-on c.args.bytes.now c.in-Ok.field-0-1.now (part c.in-Ok.element) (record { each = λ i. omega (arith, c.type_inv.bytes i) }) c.in-Ok.ensures.read c.in-Ok.len_at_least

pub returns-in-Err-clause-exact : goal.returns-in-Err-clause-exact
returns-in-Err-clause-exact c = whole-fault c.args.bytes.now c.in-Err.fault (record { each = λ i. omega (arith, c.type_inv.bytes i) }) c.in-Err.ensures.read

pub returns-in-Err-clause-whole : goal.returns-in-Err-clause-whole
returns-in-Err-clause-whole c = der-fault c.args.bytes.now c.in-Err.fault c.in-Err.ensures.read
