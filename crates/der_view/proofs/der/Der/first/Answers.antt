use Rattle.std.proofs.Common.{List, ℕ, Ok, sym, ap, ◌∙◌, arith}
use Rattle.der_view.specs.Parts.{Part, parted}
use Rattle.der_view.proofs.Listing.{front-is, front-ok}
use Rattle.der_view.proofs.der.Der.first.Goals as goal

pub overflow_sub-bytes : goal.overflow_sub-bytes
overflow_sub-bytes c = (front-is c.args.bytes.now c.in-Ok.first.tag c.in-Ok.first.body.now c.in-Ok.first.rest.now (record { each = λ i. omega (arith, c.type_inv.bytes i) }) c.in-Ok.ensures).within

pub invariant_of-result : goal.invariant_of-result
invariant_of-result c = record {
  spelled = rw c.split_at.ensures.front (front-ok c.args.bytes.now c.in-Ok.first.tag c.in-Ok.first.body.now c.in-Ok.first.rest.now (record { each = λ i. omega (arith, c.type_inv.bytes i) }) c.in-Ok.ensures);
  in_range = omega (arith, c.split_at.ensures.front_len, c.requires.in_range);
}

pub returns-in-Ok-clause-read : goal.returns-in-Ok-clause-read
returns-in-Ok-clause-read c =
    let make : List ℕ → Part = λ b. record { at = c.args.at; bytes = b } in
    ap (parted (make c.args.bytes.now)) c.in-Ok.ensures ∙ ap (λ b. Ok (make b, c.in-Ok.first.rest.now)) (sym c.split_at.ensures.front)

pub returns-in-Ok-clause-len : goal.returns-in-Ok-clause-len
returns-in-Ok-clause-len c =
    let f = front-is c.args.bytes.now c.in-Ok.first.tag c.in-Ok.first.body.now c.in-Ok.first.rest.now (record { each = λ i. omega (arith, c.type_inv.bytes i) }) c.in-Ok.ensures in
    omega (arith, f.within, c.split_at.ensures.front_len)
