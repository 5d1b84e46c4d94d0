use Rattle.std.proofs.Common.{◌≡◌, refl, arith, sym, ◌∙◌, ap, to_z, of_z, w64, to_z-of_z}
use Rattle.std.specs.Prelude.{Some}
use Rattle.jiff_core.proofs.SignedLemmas.{signed_arith}
use Rattle.mdl_table.proofs.MomentTexts.{IsSecondOf, text_of-date, text_of-outside, in_years, not_in_years, from_year_zero}
use Rattle.mdl_table.proofs.moment_text.text_of.Goals as goal

pub returns-in-Some-clause-exact : goal.returns-in-Some-clause-exact
returns-in-Some-clause-exact c =
    let split = c.day_and_second-day in
    let same : to_z w64 (of_z w64 split.result.0) ≡ split.result.0 = omega (arith, signed_arith, split.ensures.whole, split.ensures.within, c.ranges.moment) in
    let is : IsSecondOf c.args.moment split.result.0 split.result.1 = record { whole = sym (to_z-of_z c.ranges.moment) ∙ split.ensures.whole; within = split.ensures.within } in
    ap Some c.text_at.ensures ∙ sym (text_of-date c.in-Some.date _ _ _ is (c.in-Some.ensures.some.0 ∙ same) c.in-Some.ensures.some.1)

pub returns-in-Some-clause-some : goal.returns-in-Some-clause-some
returns-in-Some-clause-some c =
    let split = c.day_and_second-day in
    let same : to_z w64 (of_z w64 split.result.0) ≡ split.result.0 = omega (arith, signed_arith, split.ensures.whole, split.ensures.within, c.ranges.moment) in
    let is : IsSecondOf c.args.moment split.result.0 split.result.1 = record { whole = sym (to_z-of_z c.ranges.moment) ∙ split.ensures.whole; within = split.ensures.within } in
    let day = from_year_zero c.in-Some.date c.in-Some.ensures.some.1 in
    (λ _. in_years _ _ _ is (rw (c.in-Some.ensures.some.0 ∙ same) at day), λ _. refl)

pub returns-in-None-clause-exact : goal.returns-in-None-clause-exact
returns-in-None-clause-exact c =
    let split = c.day_and_second-day in
    let same : to_z w64 (of_z w64 split.result.0) ≡ split.result.0 = omega (arith, signed_arith, split.ensures.whole, split.ensures.within, c.ranges.moment) in
    let is : IsSecondOf c.args.moment split.result.0 split.result.1 = record { whole = sym (to_z-of_z c.ranges.moment) ∙ split.ensures.whole; within = split.ensures.within } in
    sym (text_of-outside c.args.moment (not_in_years _ _ _ is (rw same at c.in-None.ensures.none)))
