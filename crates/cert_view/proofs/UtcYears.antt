-- The years of UTCTime.
use Rattle.std.proofs.Common.{◌≡◌, ℕ, ◌+◌, ◌*◌, ◌/◌, ◌%◌, ◌<◌, ◌≤◌, Bool, true, false, cond, ◌&&◌, refl, ap, arith, rules, ℤ, pos, negsuc, ◌<ℤ◌, ◌≤ℤ◌, ◌*ℤ◌, ◌+ℤ◌, List, [], ◌∷◌, ◌++◌, codes, Some, None}
use Rattle.std.specs.Prelude.{nat_lt, slice_index, if◌then◌else◌}
use Rattle.std.proofs.lemmas.Bool.Decides.{nat_tests}
use Rattle.jiff_core.specs.Calendar.{IsCivilDate, days_from_civil, day_count, days_of_years, days_of_months, days_in_month}
use Rattle.jiff_core.proofs.CalendarLemmas.{days_from_civil-day_count, day_count-lt_year}
use Rattle.jiff_core.proofs.SignedLemmas.{signed_arith}
use Rattle.mdl_table.specs.Calendar.{is_day, day_number, second_number, moment_at}
use Rattle.mdl_table.specs.MomentText.{Says}
use Rattle.mdl_table.proofs.MomentForm.{Says-moment_of}
use Rattle.cert_view.specs.Times.{with_signs, generalized_time, century, utc_time}

-- ---- the year by its digits

record IsYear (year : ℕ) : Type 0 where
  first : 1950 ≤ year
  last : year ≤ 2049

abbrev digit : ℕ → List ℕ → ℕ
digit place text = slice_index text place

-- the text begins with the year's four digits
abbrev signed_text : List ℕ → List ℕ → List ℕ
signed_text front text = with_signs (front ++ text)

in_years : (text : List ℕ) (moment : ℤ) → (s : Says (signed_text (century text) text) moment) → IsYear s.year
in_years [] moment s = absurd (let dash : 45 ≡ 48 + s.year % 100 / 10 = ap (digit 2) s.is_text in omega arith)
in_years (b ∷ bs) moment s = go (nat_lt b 53) refl (ap (digit 0) s.is_text) (ap (digit 1) s.is_text) (ap (digit 2) s.is_text) where
  go : (low : Bool) → nat_lt b 53 ≡ low →
      digit 0 (signed_text (cond low (codes "20") (codes "19")) (b ∷ bs)) ≡ 48 + s.year / 100 / 10 →
      digit 1 (signed_text (cond low (codes "20") (codes "19")) (b ∷ bs)) ≡ 48 + s.year / 100 % 10 →
      digit 2 (signed_text (cond low (codes "20") (codes "19")) (b ∷ bs)) ≡ 48 + s.year % 100 / 10 → IsYear s.year
  go true low x y z = let less : b < 53 = grind (arith, nat_tests) in record { first = omega arith; last = omega arith }
  go false low x y z = let more : 53 ≤ b = grind (arith, nat_tests) in record { first = omega arith; last = omega arith }

-- ---- the days of these years

record Civil (year month day : ℕ) : Type 0 where
  year_in : year ≤ 9999
  month_from : 1 ≤ month
  month_to : month ≤ 12
  day_from : 1 ≤ day
  day_to : day ≤ days_in_month (pos year) month

civil : (year month day : ℕ) → is_day year month day ≡ true → Civil year month day
civil year month day is = record {
  year_in = grind (arith, nat_tests);
  month_from = grind (arith, nat_tests);
  month_to = grind (arith, nat_tests);
  day_from = grind (arith, nat_tests);
  day_to = grind (arith, nat_tests);
}

date : (year month day : ℕ) → Civil year month day → IsCivilDate (pos year) month day
date year month day is = ((omega (arith, signed_arith), omega (arith, signed_arith, is.year_in)), (is.month_from, is.month_to), (is.day_from, is.day_to))

before_1950 : days_from_civil (pos 1949) 12 31 ≡ negsuc 7305
unfolding days_from_civil day_count days_of_years days_of_months
before_1950 = refl

from_2050 : days_from_civil (pos 2050) 1 1 ≡ pos 29_220
unfolding days_from_civil day_count days_of_years days_of_months
from_2050 = refl

last_before : IsCivilDate (pos 1949) 12 31
last_before = ((search rules, search rules), (omega arith, omega arith), (omega arith, search rules))

day_from_1950 : (year month day : ℕ) → Civil year month day → 1950 ≤ year → negsuc 7304 ≤ℤ days_from_civil (pos year) month day
day_from_1950 year month day is first =
    let later = day_count-lt_year (pos 1949) 12 31 (pos year) month day last_before is.day_from (omega (arith, signed_arith, first)) in
    omega (arith, signed_arith, days_from_civil-day_count, before_1950)

day_to_2049 : (year month day : ℕ) → Civil year month day → year ≤ 2049 → days_from_civil (pos year) month day ≤ℤ pos 29_219
day_to_2049 year month day is last =
    let earlier = day_count-lt_year (pos year) month day (pos 2050) 1 1 (date year month day is) (omega arith) (omega (arith, signed_arith, last)) in
    omega (arith, signed_arith, days_from_civil-day_count, from_2050)

-- ---- the moments

record InYears (moment : ℤ) : Type 0 where
  first : negsuc 631_151_999 ≤ℤ moment
  last : moment <ℤ pos 2_524_608_000

second_fits : (hour minute second : ℕ) → (nat_lt hour 24 && nat_lt minute 60 && nat_lt second 60) ≡ true → 3600 * hour + 60 * minute + second < 86_400
second_fits hour minute second is = grind (arith, nat_tests)

moment_in : (year month day hour minute second : ℕ) (moment : ℤ) → IsYear year →
    moment_at (day_number year month day) (second_number hour minute second) ≡ Some moment → InYears moment
moment_in year month day hour minute second moment within is =
    go (is_day year month day) (nat_lt hour 24 && nat_lt minute 60 && nat_lt second 60) refl refl is where
      go : (b c : Bool) → is_day year month day ≡ b → (nat_lt hour 24 && nat_lt minute 60 && nat_lt second 60) ≡ c →
          moment_at (if b then Some (days_from_civil (pos year) month day) else None) (if c then Some (3600 * hour + 60 * minute + second) else None) ≡ Some moment →
          InYears moment
      go true true e f h =
          let exists = civil year month day e in
          let begins = day_from_1950 year month day exists within.first in
          let ends = day_to_2049 year month day exists within.last in
          let seconds = second_fits hour minute second f in
          let number : days_from_civil (pos year) month day *ℤ pos 86_400 +ℤ pos (3600 * hour + 60 * minute + second) ≡ moment = cc in
          record { first = omega (arith, signed_arith, begins, seconds, number); last = omega (arith, signed_arith, ends, seconds, number) }
      go true false e f h = cc
      go false c e f h = cc

pub utc_first : (text : List ℕ) (moment : ℤ) → utc_time text ≡ Some moment → negsuc 631_151_999 ≤ℤ moment
unfolding utc_time generalized_time
utc_first text moment is =
    let says : Says (signed_text (century text) text) moment = Says-moment_of (signed_text (century text) text) moment is in
    (moment_in says.year says.month says.day says.hour says.minute says.second moment (in_years text moment says) says.is_moment).first

pub utc_last : (text : List ℕ) (moment : ℤ) → utc_time text ≡ Some moment → moment <ℤ pos 2_524_608_000
unfolding utc_time generalized_time
utc_last text moment is =
    let says : Says (signed_text (century text) text) moment = Says-moment_of (signed_text (century text) text) moment is in
    (moment_in says.year says.month says.day says.hour says.minute says.second moment (in_years text moment says) says.is_moment).last
