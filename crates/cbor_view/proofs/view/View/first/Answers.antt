use Rattle.std.proofs.Common.{ℕ, take, IsOk, sym, ap, ◌∙◌, subst, arith, rules}
use Rattle.cbor_view.specs.Reading.{reads}
use Rattle.cbor_view.proofs.Stepping.{size_past, rest_within, begins_past}
use Rattle.cbor_view.proofs.view.View.first.Goals as goal

pub overflow_sub-bytes : goal.overflow_sub-bytes
overflow_sub-bytes c = rest_within c.args.bytes.now c.in-Ok.rest.now (record { each = λ i. omega (arith, c.type_inv.bytes i) }) c.in-Ok.ensures

pub invariant_of-result : goal.invariant_of-result
invariant_of-result c = record {
  spelled = rw c.split_at.ensures.front (subst (λ (m : ℕ). IsOk (reads (take m c.args.bytes.now))) (size_past c.args.bytes.now c.in-Ok.rest.now c.in-Ok.ensures) c.requires.begins);
  in_range = omega (arith, c.split_at.ensures.front_len, c.requires.in_range);
}

pub unreachable-requires : goal.unreachable-requires
unreachable-requires c = begins_past c.args.bytes.now c.in-Err.field-0 c.in-Err.ensures c.requires.begins

pub returns-clause-item : goal.returns-clause-item
returns-clause-item c = ap (λ b. record { at = c.args.at; bytes = b }) (c.split_at.ensures.front ∙ ap (λ m. take m c.args.bytes.now) (sym (size_past c.args.bytes.now c.in-Ok.rest.now c.in-Ok.ensures)))

pub returns-clause-rest : goal.returns-clause-rest
returns-clause-rest c = rw (size_past c.args.bytes.now c.in-Ok.rest.now c.in-Ok.ensures) (search rules)

pub returns-clause-len : goal.returns-clause-len
returns-clause-len c = rw (size_past c.args.bytes.now c.in-Ok.rest.now c.in-Ok.ensures) (search rules)

pub returns-clause-within : goal.returns-clause-within
returns-clause-within c = rw (size_past c.args.bytes.now c.in-Ok.rest.now c.in-Ok.ensures) (omega arith)
