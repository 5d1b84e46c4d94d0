use Rattle.std.proofs.Common.{arith}
use Rattle.der_view.proofs.Listing.{read-fault, read-found, body-within}
use Rattle.der_view.proofs.der.split.Goals as goal

pub unreachable-requires : goal.unreachable-requires
unreachable-requires c = read-fault c.args.element.now c.in-Err.field-0 c.requires c.in-Err.ensures

pub returns-clause-read : goal.returns-clause-read
returns-clause-read c = read-found c.args.element.now c.in-Ok.first.tag c.in-Ok.first.body.now c.in-Ok.first.rest.now c.requires c.in-Ok.ensures

pub returns-clause-shorter : goal.returns-clause-shorter
returns-clause-shorter c = (body-within c.args.element.now c.in-Ok.first.tag c.in-Ok.first.body.now c.in-Ok.first.rest.now (record { each = λ i. omega (arith, c.type_inv.element i) }) c.in-Ok.ensures).0

pub returns-clause-bytes : goal.returns-clause-bytes
returns-clause-bytes c = (body-within c.args.element.now c.in-Ok.first.tag c.in-Ok.first.body.now c.in-Ok.first.rest.now (record { each = λ i. omega (arith, c.type_inv.element i) }) c.in-Ok.ensures).1.each
