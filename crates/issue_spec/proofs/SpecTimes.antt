-- A moment that is read lies in the years 0 to 9999.
use Rattle.std.proofs.Common.{◌≡◌, ℕ, ◌+◌, ◌*◌, ◌<◌, ◌≤◌, refl, arith, Bool, true, false, ◌&&◌, ℤ, pos, List, Some, None}
use Rattle.std.specs.Prelude.{codes, nat_lt, nat_le, if◌then◌else◌}
use Rattle.std.proofs.lemmas.Bool.Decides.{nat_tests}
use Rattle.jiff_core.specs.Calendar.{days_from_civil, days_in_month}
use Rattle.jiff_core.specs.declared.civil.date.Date.{Date}
use Rattle.jiff_core.proofs.SignedLemmas.{signed_arith}
use Rattle.mdl_table.specs.Calendar.{is_day, day_number, day_at_front, second_number, moment_at, moment_of}
use Rattle.mdl_table.specs.Form.{has_form, two_at, four_at}
use Rattle.mdl_table.specs.MomentText.{IsInYears}
use Rattle.mdl_table.proofs.MomentTexts.{from_year_zero, in_years}

record IsDay (year month day : ℕ) : Type 0 where
  year_last : year ≤ 9999
  month_first : 1 ≤ month
  month_last : month ≤ 12
  day_first : 1 ≤ day
  day_last : day ≤ days_in_month (pos year) month

day_parts : (year month day : ℕ) → is_day year month day ≡ true → IsDay year month day
day_parts year month day is = record {
  year_last = grind (arith, nat_tests);
  month_first = grind (arith, nat_tests);
  month_last = grind (arith, nat_tests);
  day_first = grind (arith, nat_tests);
  day_last = grind (arith, nat_tests);
}

abbrev date_of : (year month day : ℕ) → IsDay year month day → Date
date_of year month day is = record {
  year = pos year;
  month = month;
  day = day;
  year_in = omega (arith, signed_arith, is.year_last);
  month_in = omega (arith, is.month_first, is.month_last);
  day_in = omega (arith, is.day_first, is.day_last);
}

within_day : (hour minute second : ℕ) → (nat_lt hour 24 && nat_lt minute 60 && nat_lt second 60) ≡ true → 3600 * hour + 60 * minute + second < 86_400
within_day hour minute second is = grind (arith, nat_tests)

parts_in_years : (year month day hour minute second : ℕ) (moment : ℤ) →
    moment_at (day_number year month day) (second_number hour minute second) ≡ Some moment → IsInYears moment
parts_in_years year month day hour minute second moment is =
    go (is_day year month day) (nat_lt hour 24 && nat_lt minute 60 && nat_lt second 60) refl refl is where
      go : (b c : Bool) → is_day year month day ≡ b → (nat_lt hour 24 && nat_lt minute 60 && nat_lt second 60) ≡ c →
          moment_at (if b then Some (days_from_civil (pos year) month day) else None) (if c then Some (3600 * hour + 60 * minute + second) else None) ≡ Some moment →
          IsInYears moment
      go true true e f h =
          let date = date_of year month day (day_parts year month day e) in
          in_years moment (days_from_civil (pos year) month day) (3600 * hour + 60 * minute + second)
          (record { whole = cc; within = within_day hour minute second f })
          (from_year_zero date (omega (arith, signed_arith)))
      go true false e f h = cc
      go false c e f h = cc

form_in_years : (text : List ℕ) (moment : ℤ) (b : Bool) →
    (if b then moment_at (day_at_front text) (second_number (two_at text 11) (two_at text 14) (two_at text 17)) else None) ≡ Some moment → IsInYears moment
form_in_years text moment true is =
    parts_in_years (four_at text 0) (two_at text 5) (two_at text 8) (two_at text 11) (two_at text 14) (two_at text 17) moment is
form_in_years text moment false is = cc

pub moment_in_years : (text : List ℕ) (moment : ℤ) → moment_of text ≡ Some moment → IsInYears moment
unfolding moment_of
moment_in_years text moment is = form_in_years text moment (has_form (codes "0000-00-00T00:00:00Z") text) is
