use Rattle.std.proofs.Common.{List, ℕ, length, ◌+◌, ◌-◌, sym, ap, subst}
use Rattle.der_view.specs.Parts.{Part, AreParts, parts_at}
use Rattle.der_view.proofs.Listing.{body-read, parts-are}
use Rattle.der_view.proofs.der.Der.parts.Goals as goal

pub returns-clause-place : goal.returns-clause-place
returns-clause-place c =
    let make : List ℕ → Part = λ b. record { at = c.args.self.now.at + (length c.args.self.now.slice.now - length b); bytes = b } in
    ap (λ b. parts_at (make b)) (sym (body-read c.args.self.now.slice.now c.split.result.0 c.split.result.1.now c.split.ensures.read))

pub returns-clause-exact : goal.returns-clause-exact
returns-clause-exact c =
    let make : List ℕ → Part = λ b. record { at = c.args.self.now.at + (length c.args.self.now.slice.now - length b); bytes = b } in
    subst (λ b. AreParts (make b) (parts_at (make c.split.result.1.now))) (sym (body-read c.args.self.now.slice.now c.split.result.0 c.split.result.1.now c.split.ensures.read))
    (parts-are (make c.split.result.1.now) (record { each = c.split.ensures.bytes }))
