-- The texts of moments (RFC 3339, section 5.6, with `T`, `Z` and no fraction of a second).
use Rattle.std.specs.Prelude.{◌≡◌, ℕ, zero, suc, ◌+◌, ◌/◌, ◌%◌, ◌≤ℤ◌, Bool, ◌&&◌, if◌then◌else◌, ℤ, pos, negsuc, ◌-ℤ◌, int_le, unsigned_abs, List, [], ◌∷◌, ◌++◌, codes, Option, Some, None}
use Rattle.std.specs.Int.{int_div_euclid, int_rem_euclid}
use Rattle.jiff_core.specs.Calendar.{days_from_civil}
use Rattle.mdl_table.specs.Calendar.{day_number, second_number, moment_at}

-- a number in two digits, and in four
abbrev pub two_digits : ℕ → List ℕ
two_digits n = (48 + n / 10) ∷ (48 + n % 10) ∷ []

abbrev pub four_digits : ℕ → List ℕ
four_digits n = two_digits (n / 100) ++ two_digits (n % 100)

abbrev pub date_text : ℕ → ℕ → ℕ → List ℕ
date_text year month day = four_digits year ++ codes "-" ++ two_digits month ++ codes "-" ++ two_digits day

abbrev pub time_text : ℕ → ℕ → ℕ → List ℕ
time_text hour minute second = two_digits hour ++ codes ":" ++ two_digits minute ++ codes ":" ++ two_digits second

-- The text names the day: it is a day that exists, written out.
pub record NamesDay (text : List ℕ) (number : ℤ) : Type 0 where
  pub year : ℕ
  pub month : ℕ
  pub day : ℕ
  pub is_text : text ≡ date_text year month day
  pub is_number : day_number year month day ≡ Some number

-- The text says the moment: it is a day and a time of day that exist, written out.
pub record Says (text : List ℕ) (moment : ℤ) : Type 0 where
  pub year : ℕ
  pub month : ℕ
  pub day : ℕ
  pub hour : ℕ
  pub minute : ℕ
  pub second : ℕ
  pub is_text : text ≡ date_text year month day ++ codes "T" ++ time_text hour minute second ++ codes "Z"
  pub is_moment : moment_at (day_number year month day) (second_number hour minute second) ≡ Some moment

-- the last of the first numbers that passes a test, and 0 where none does
unfoldable pub last_below : ℕ → (ℕ → Bool) → ℕ
last_below zero passes = 0
last_below (suc n) passes = if passes n then n else last_below n passes

-- the date of the number of a day: the last year that has begun by then, the last month of it that has,
-- and the days from the first of that month on
unfoldable pub year_of : ℤ → ℕ
year_of day = last_below 10_000 (λ year. int_le (days_from_civil (pos year) 1 1) day)

unfoldable pub month_of : ℤ → ℕ
month_of day = suc (last_below 12 (λ before. int_le (days_from_civil (pos (year_of day)) (suc before) 1) day))

unfoldable pub day_of_month : ℤ → ℕ
day_of_month day = suc (unsigned_abs (day -ℤ days_from_civil (pos (year_of day)) (month_of day) 1))

-- the text of a second of a day
abbrev pub text_at : ℤ → ℕ → List ℕ
text_at day second =
    date_text (year_of day) (month_of day) (day_of_month day) ++ codes "T"
    ++ time_text (second / 3600) (second / 60 % 60) (second % 60) ++ codes "Z"

-- the days of the years 0 to 9999
abbrev pub IsDayInYears : ℤ → Type 0
IsDayInYears day = (negsuc 719_527 ≤ℤ day) × (day ≤ℤ pos 2_932_896)

-- the moments from 0000-01-01T00:00:00Z to 9999-12-31T23:59:59Z, as a test and as a fact
abbrev pub is_in_years : ℤ → Bool
is_in_years moment = int_le (negsuc 62_167_219_199) moment && int_le moment (pos 253_402_300_799)

abbrev pub IsInYears : ℤ → Type 0
IsInYears moment = (negsuc 62_167_219_199 ≤ℤ moment) × (moment ≤ℤ pos 253_402_300_799)

-- the text of a moment in the years 0 to 9999
unfoldable pub text_of : ℤ → Option (List ℕ)
text_of moment =
    if is_in_years moment
    then Some (text_at (int_div_euclid moment (pos 86_400)) (unsigned_abs (int_rem_euclid moment (pos 86_400))))
    else None
