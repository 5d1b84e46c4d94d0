-- Digits that aren't read have too large a number.
use Rattle.std.proofs.Common.{◌<◌, ◌^◌, sym, ◌∙◌, arith}
use Rattle.mdoc_frame.proofs.NumberLemmas.{too_large}
use Rattle.mdoc_frame.proofs.pair.is_number.Goals as goal

pub returns-in-Err : goal.returns-in-Err
returns-in-Err c =
    let small : c.args.most < 2 ^ 64 = omega (arith, c.ranges.most.fits) in
    too_large c.in-Err.field-0 c.args.least c.args.most c.args.word.now (sym c.is_plain.ensures ∙ c.if-not-is_plain.false) small c.in-Err.ensures.value.0
