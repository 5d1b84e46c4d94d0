-- A text that says a moment is read as that moment, and the text of a moment says it.
use Rattle.std.proofs.Common.{◌≡◌, ℕ, ◌+◌, ◌*◌, ◌/◌, ◌%◌, ◌<◌, ◌≤◌, refl, sym, ap, ◌∙◌, arith, Bool, true, false, ◌&&◌, ℤ, pos, negsuc, ◌+ℤ◌, ◌*ℤ◌, subst, List, ◌++◌, Some, None}
use Rattle.std.specs.Prelude.{codes, int_le, if◌then◌else◌, unsigned_abs, nat_lt}
use Rattle.std.specs.Char.{is_ascii_digit}
use Rattle.std.specs.Int.{int_div_euclid, int_rem_euclid}
use Rattle.std.proofs.lemmas.Bool.Decides.{nat_tests}
use Rattle.jiff_core.specs.Calendar.{IsCivilDate, days_from_civil}
use Rattle.jiff_core.proofs.SignedLemmas.{signed_arith}
use Rattle.jiff_core.proofs.CalendarLemmas.{days_in_month_bounds}
use Rattle.mdl_table.specs.Form.{has_form, two_at, four_at}
use Rattle.mdl_table.specs.Calendar.{is_day, day_number, second_number, moment_at, moment_of}
use Rattle.mdl_table.proofs.CivilDays.{civil_of, number_of_civil, le_passed}
use Rattle.mdl_table.specs.MomentText.{date_text, time_text, Says, text_at, text_of, year_of, month_of, day_of_month, IsDayInYears}

-- ---- a text that is written has its form

digit : (d : ℕ) → d < 10 → is_ascii_digit (48 + d) ≡ true
digit d h = grind (arith, nat_tests)

pub digits : (n : ℕ) → n < 100 → (is_ascii_digit (48 + n / 10) ≡ true) × (is_ascii_digit (48 + n % 10) ≡ true)
digits n h = (digit (n / 10) (omega arith), digit (n % 10) (omega arith))

-- the parts of a text that says a moment, within two and four digits
pub record Fit (year month day hour minute second : ℕ) : Type 0 where
  pub years : year < 10_000
  pub months : month < 100
  pub days : day < 100
  pub hours : hour < 100
  pub minutes : minute < 100
  pub seconds : second < 100

abbrev pub said : ℕ → ℕ → ℕ → ℕ → ℕ → ℕ → List ℕ
said year month day hour minute second = date_text year month day ++ codes "T" ++ time_text hour minute second ++ codes "Z"

pub has_form-said : (year month day hour minute second : ℕ) → Fit year month day hour minute second → has_form (codes "0000-00-00T00:00:00Z") (said year month day hour minute second) ≡ true
unfolding has_form
has_form-said year month day hour minute second fit =
    let century = digits (year / 100) (omega (arith, fit.years)) in
    let of_century = digits (year % 100) (omega arith) in
    let months = digits month fit.months in
    let days = digits day fit.days in
    let hours = digits hour fit.hours in
    let minutes = digits minute fit.minutes in
    let seconds = digits second fit.seconds in
    rw (
      century.0,
      century.1,
      of_century.0,
      of_century.1,
      months.0,
      months.1,
      days.0,
      days.1,
      hours.0,
      hours.1,
      minutes.0,
      minutes.1,
      seconds.0,
      seconds.1,
    ) refl

-- ---- and is read as its parts

four_at-said : (year month day hour minute second : ℕ) → year < 10_000 → four_at (said year month day hour minute second) 0 ≡ year
four_at-said year month day hour minute second h = omega arith

pub record ReadAs (text : List ℕ) (year month day hour minute second : ℕ) : Type 0 where
  pub year_is : four_at text 0 ≡ year
  pub month_is : two_at text 5 ≡ month
  pub day_is : two_at text 8 ≡ day
  pub hour_is : two_at text 11 ≡ hour
  pub minute_is : two_at text 14 ≡ minute
  pub second_is : two_at text 17 ≡ second

pub said-ReadAs : (year month day hour minute second : ℕ) → Fit year month day hour minute second → ReadAs (said year month day hour minute second) year month day hour minute second
said-ReadAs year month day hour minute second fit = record {
  year_is = four_at-said year month day hour minute second fit.years;
  month_is = omega (arith, fit.months);
  day_is = omega (arith, fit.days);
  hour_is = omega (arith, fit.hours);
  minute_is = omega (arith, fit.minutes);
  second_is = omega (arith, fit.seconds);
}

pub moment_of-read : (text : List ℕ) (year month day hour minute second : ℕ) → has_form (codes "0000-00-00T00:00:00Z") text ≡ true → ReadAs text year month day hour minute second → moment_of text ≡ moment_at (day_number year month day) (second_number hour minute second)
unfolding moment_of
moment_of-read text year month day hour minute second form is =
    rw (form, is.year_is, is.month_is, is.day_is, is.hour_is, is.minute_is, is.second_is) refl

-- ---- what exists fits

pub day_fits : (year month day : ℕ) → is_day year month day ≡ true → (year < 10_000) × (month < 100) × (day < 100)
day_fits year month day is = let long = days_in_month_bounds (pos year) month in grind (arith, nat_tests)

second_fits : (hour minute second : ℕ) → nat_lt hour 24 && nat_lt minute 60 && nat_lt second 60 ≡ true → (hour < 100) × (minute < 100) × (second < 100)
second_fits hour minute second is = grind (arith, nat_tests)

-- the parts of a moment fit
parts_fit : (year month day hour minute second : ℕ) (moment : ℤ) → moment_at (day_number year month day) (second_number hour minute second) ≡ Some moment → Fit year month day hour minute second
parts_fit year month day hour minute second moment is =
    go (is_day year month day) (nat_lt hour 24 && nat_lt minute 60 && nat_lt second 60) refl refl is where
      go : (b c : Bool) → is_day year month day ≡ b → (nat_lt hour 24 && nat_lt minute 60 && nat_lt second 60) ≡ c →
          moment_at (if b then Some (days_from_civil (pos year) month day) else None) (if c then Some (3600 * hour + 60 * minute + second) else None) ≡ Some moment →
          Fit year month day hour minute second
      go true true e f h =
          let date = day_fits year month day e in
          let time = second_fits hour minute second f in
          record { years = date.0; months = date.1; days = date.2; hours = time.0; minutes = time.1; seconds = time.2 }
      go true false e f h = cc
      go false c e f h = cc

pub moment_of-Says : (text : List ℕ) (moment : ℤ) → Says text moment → moment_of text ≡ Some moment
moment_of-Says text moment is =
    let fit = parts_fit is.year is.month is.day is.hour is.minute is.second moment is.is_moment in
    ap moment_of is.is_text
    ∙ moment_of-read _ is.year is.month is.day is.hour is.minute is.second
    (has_form-said is.year is.month is.day is.hour is.minute is.second fit)
    (said-ReadAs is.year is.month is.day is.hour is.minute is.second fit)
    ∙ is.is_moment

-- ---- the text of a moment says it

day_number-civil : (year month day : ℕ) → IsCivilDate (pos year) month day → day_number year month day ≡ Some (days_from_civil (pos year) month day)
day_number-civil year month day (in_years, in_months, in_days) =
    let low : year ≤ 9999 = omega (arith, signed_arith, in_years) in
    grind (arith, nat_tests)

second_number-parts : (second : ℕ) → second < 86_400 → second_number (second / 3600) (second / 60 % 60) (second % 60) ≡ Some second
second_number-parts second h =
    let sum : 3600 * (second / 3600) + 60 * (second / 60 % 60) + second % 60 ≡ second = omega arith in
    let hours : second / 3600 < 24 = omega arith in
    let minutes : second / 60 % 60 < 60 = omega arith in
    let seconds : second % 60 < 60 = omega arith in
    grind (arith, nat_tests)

text_at-Says : (moment day : ℤ) (second : ℕ) → IsDayInYears day → second < 86_400 → moment ≡ day *ℤ pos 86_400 +ℤ pos second → Says (text_at day second) moment
text_at-Says moment day second h within e = record {
  year = year_of day;
  month = month_of day;
  day = day_of_month day;
  hour = second / 3600;
  minute = second / 60 % 60;
  second = second % 60;
  is_text = refl;
  is_moment = rw (day_number-civil _ _ _ (civil_of day h), second_number-parts second within, number_of_civil day h) (ap Some (sym e));
}

pub text_of-Says : (moment : ℤ) (text : List ℕ) → text_of moment ≡ Some text → Says text moment
unfolding text_of
text_of-Says moment text is = go (int_le (negsuc 62_167_219_199) moment) (int_le moment (pos 253_402_300_799)) refl refl is where
  go : (low high : Bool) → int_le (negsuc 62_167_219_199) moment ≡ low → int_le moment (pos 253_402_300_799) ≡ high →
      (if low && high then Some (text_at (int_div_euclid moment (pos 86_400)) (unsigned_abs (int_rem_euclid moment (pos 86_400)))) else None) ≡ Some text →
      Says text moment
  go true true l r e =
      let first = le_passed (negsuc 62_167_219_199) moment l in
      let last = le_passed moment (pos 253_402_300_799) r in
      let in_range : IsDayInYears (int_div_euclid moment (pos 86_400)) = (omega (arith, signed_arith), omega (arith, signed_arith)) in
      let within : unsigned_abs (int_rem_euclid moment (pos 86_400)) < 86_400 = omega (arith, signed_arith) in
      let whole : moment ≡ int_div_euclid moment (pos 86_400) *ℤ pos 86_400 +ℤ pos (unsigned_abs (int_rem_euclid moment (pos 86_400))) = omega (arith, signed_arith) in
      let same : text_at (int_div_euclid moment (pos 86_400)) (unsigned_abs (int_rem_euclid moment (pos 86_400))) ≡ text = cc in
      let P : List ℕ → Type 0 = λ t. Says t moment in
      subst P same (text_at-Says moment _ _ in_range within whole)
  go true false l r e = cc
  go false high l r e = cc
