use Rattle.std.proofs.Common.{◌≡◌, sym, ◌∙◌, arith, length, max}
use Rattle.std.specs.Str.Lines.{lines}
use Rattle.issue_spec.proofs.SpecLaws.{spec_is}
use Rattle.issue_spec.proofs.spec.Spec.read.Goals as goal

pub invariant_of-result : goal.invariant_of-result
invariant_of-result c =
    let all = rw c.in-None.ensures.steps.0 at c.loop-line.invariant.2 in
    let last : c.max.result ≡ max 1 (length (lines c.args.text.now)) = grind (arith, c.max.ensures, c.line_count.ensures) in
    let exact = rw last at c.in_ok-fields.ensures.exact in
    record { ranges = spec_is c.args.text.now c.in_ok-fields.fields (sym all ∙ exact) c.in_ok-fields.ensures.copy }
