use Rattle.std.proofs.Common.{Ok, ap, ◌∙◌, arith, rules}
use Rattle.cbor_view.specs.Reading.{tree_of}
use Rattle.cbor_view.proofs.WholeReading.{whole-ok, whole-trailing, whole-fault, no-spelling, reads-spells, part-ok, part-fault, short, long}
use Rattle.cbor_view.proofs.view.View.read.Goals as goal

pub invariant_of-result : goal.invariant_of-result
invariant_of-result c = record { spelled = part-ok c.args.bytes.now (whole-ok c.args.bytes.now (c.in-Ok-empty.ensures ∙ ap (λ x. Ok x) (short c.in-Ok-empty.field-0.now c.in-Ok-empty.len_below))); in_range = search rules }

pub returns-in-Ok-empty-clause-exact : goal.returns-in-Ok-empty-clause-exact
returns-in-Ok-empty-clause-exact c = reads-spells c.args.bytes.now (tree_of c.args.bytes.now) (record { each = λ i. omega (arith, c.type_inv.bytes i) }) (whole-ok c.args.bytes.now (c.in-Ok-empty.ensures ∙ ap (λ x. Ok x) (short c.in-Ok-empty.field-0.now c.in-Ok-empty.len_below)))

pub returns-in-Ok-empty-clause-read : goal.returns-in-Ok-empty-clause-read
returns-in-Ok-empty-clause-read c = whole-ok c.args.bytes.now (c.in-Ok-empty.ensures ∙ ap (λ x. Ok x) (short c.in-Ok-empty.field-0.now c.in-Ok-empty.len_below))

pub returns-in-Ok-clause-exact : goal.returns-in-Ok-clause-exact
returns-in-Ok-clause-exact c = no-spelling c.args.bytes.now _ (whole-trailing c.args.bytes.now c.in-Ok.rest.now c.in-Ok.ensures (long c.in-Ok.rest.now c.in-Ok.len_at_least))

pub returns-in-Ok-clause-read : goal.returns-in-Ok-clause-read
returns-in-Ok-clause-read c = rw c.saturating_sub.ensures (whole-trailing c.args.bytes.now c.in-Ok.rest.now c.in-Ok.ensures (long c.in-Ok.rest.now c.in-Ok.len_at_least))

pub returns-in-Ok-clause-whole : goal.returns-in-Ok-clause-whole
returns-in-Ok-clause-whole c = rw c.saturating_sub.ensures (part-fault c.args.bytes.now _ (whole-trailing c.args.bytes.now c.in-Ok.rest.now c.in-Ok.ensures (long c.in-Ok.rest.now c.in-Ok.len_at_least)))

pub returns-in-Err-clause-exact : goal.returns-in-Err-clause-exact
returns-in-Err-clause-exact c = no-spelling c.args.bytes.now _ (whole-fault c.args.bytes.now c.in-Err.stop c.in-Err.ensures)

pub returns-in-Err-clause-read : goal.returns-in-Err-clause-read
returns-in-Err-clause-read c = rw c.saturating_sub-in-Err.ensures (whole-fault c.args.bytes.now c.in-Err.stop c.in-Err.ensures)

pub returns-in-Err-clause-whole : goal.returns-in-Err-clause-whole
returns-in-Err-clause-whole c = rw c.saturating_sub-in-Err.ensures (part-fault c.args.bytes.now _ (whole-fault c.args.bytes.now c.in-Err.stop c.in-Err.ensures))
