use Rattle.std.proofs.Common.{arith, pos, ◌<ℤ◌, to_z-of_z}
use Rattle.jiff_core.proofs.SignedLemmas.{signed_arith}
use Rattle.mdl_table.proofs.MomentTexts.{before_year_zero}
use Rattle.mdl_table.proofs.moment_text.date_of.Goals as goal

pub returns-then-date-lt0-clause-none : goal.returns-then-date-lt0-clause-none
returns-then-date-lt0-clause-none c =
    let before : c.in-Ok.date.year <ℤ pos 0 = omega (arith, signed_arith, c.if-date-lt0.true) in
    λ is. before_year_zero c.in-Ok.date before (rw (c.in-Ok.ensures.value, to_z-of_z c.ranges.day) is)
