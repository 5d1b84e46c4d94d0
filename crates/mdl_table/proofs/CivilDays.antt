-- The date that is found for the number of a day is a date of the calendar, and has that number.
use Rattle.std.proofs.Common.{◌≡◌, ℕ, zero, suc, ◌+◌, ◌-◌, ◌<◌, ◌≤◌, inl, inr, refl, sym, arith, Bool, true, false, ℤ, pos, negsuc, ◌+ℤ◌, ◌-ℤ◌, ◌≤ℤ◌, ◌<ℤ◌, unsigned_abs}
use Rattle.std.specs.Prelude.{int_le, if◌then◌else◌}
use Rattle.std.proofs.lemmas.Bool.{cases_lt}
use Rattle.jiff_core.specs.Calendar.{IsCivilDate, days_from_civil, days_in_month, days_in_year}
use Rattle.jiff_core.proofs.SignedLemmas.{signed_arith}
use Rattle.jiff_core.proofs.CalendarLemmas.{days_from_civil-day_count, day_count-next_year, day_count-next_month, day_count-last_of_year, day_count-day}
use Rattle.jiff_core.proofs.DateLemmas.{days_from_civil-day, days_from_civil-max}
use Rattle.jiff_core.proofs.MarchLemmas.{day_count-early}
use Rattle.mdl_table.specs.MomentText.{last_below, year_of, month_of, day_of_month, IsDayInYears}
use borrow.Author.Differences.{up, down, true_is_le, le-true, le-false}

pub record IsLast (n : ℕ) (passes : ℕ → Bool) (last : ℕ) : Type 0 where
  pub below : last < n
  pub passed : passes last ≡ true
  pub next : suc last < n → passes (suc last) ≡ false

-- a number that passes is found where 0 does
pub last_below-IsLast : (n : ℕ) (passes : ℕ → Bool) → passes 0 ≡ true → IsLast (suc n) passes (last_below (suc n) passes)
unfolding last_below
last_below-IsLast zero passes first = rw first (record { below = omega arith; passed = first; next = λ h. absurd (omega arith) })
last_below-IsLast (suc n) passes first = go (passes (suc n)) refl (last_below-IsLast n passes first) where
  go : (b : Bool) → passes (suc n) ≡ b → IsLast (suc n) passes (last_below (suc n) passes) → IsLast (suc (suc n)) passes (if b then suc n else last_below (suc n) passes)
  go true e found = record { below = omega arith; passed = e; next = λ h. absurd (omega arith) }
  go false e found = record {
    below = omega (arith, found.below);
    passed = found.passed;
    next = λ h. elim (cases_lt (suc (last_below (suc n) passes)) (suc n)) [
      | inl lt ↦ found.next lt
      | inr ge ↦ let same : suc (last_below (suc n) passes) ≡ suc n = omega (arith, found.below) in rw same e
    ];
  }

pub le_true : (a b : ℤ) → a ≤ℤ b → int_le a b ≡ true
le_true a b h = sym (true_is_le a b (omega (arith, signed_arith)))

pub le_passed : (a b : ℤ) → int_le a b ≡ true → a ≤ℤ b
le_passed a b e = let parts = le-true a b e in omega (arith, signed_arith)

lt_failed : (a b : ℤ) → int_le a b ≡ false → b <ℤ a
lt_failed a b e = let parts = le-false a b e in omega (arith, signed_arith)

-- a day lies from a day on, for so many days
pub record IsWithinDays (first : ℤ) (days : ℕ) (day : ℤ) : Type 0 where
  pub begun : first ≤ℤ day
  pub not_ended : day <ℤ (first +ℤ pos days)

-- ---- the year

pub year_zero : days_from_civil (pos 0) 1 1 ≡ negsuc 719_527
year_zero = omega (arith, signed_arith, days_from_civil-day_count, day_count-early (pos 0) 9999 1 1 refl (omega arith) (omega arith) (omega arith))

before_next_year : (year : ℕ) (day : ℤ) → day <ℤ days_from_civil (pos (suc year)) 1 1 → day <ℤ (days_from_civil (pos year) 1 1 +ℤ pos (days_in_year (pos year)))
before_next_year year day h =
    let next = day_count-next_year (pos year) (pos (suc year)) (omega (arith, signed_arith)) (omega (arith, signed_arith)) in
    omega (arith, signed_arith, days_from_civil-day_count)

before_end : (year : ℕ) (day : ℤ) → year ≡ 9999 → day ≤ℤ pos 2_932_896 → day <ℤ (days_from_civil (pos year) 1 1 +ℤ pos (days_in_year (pos year)))
before_end year day last h = rw last
    (omega (arith, signed_arith, days_from_civil-day_count, day_count-last_of_year (pos 9999), days_from_civil-max))

year_is_last : (day : ℤ) → IsDayInYears day → IsLast 10_000 (λ year. int_le (days_from_civil (pos year) 1 1) day) (year_of day)
unfolding year_of
year_is_last day h =
    last_below-IsLast 9999 (λ year. int_le (days_from_civil (pos year) 1 1) day) (le_true (days_from_civil (pos 0) 1 1) day (rw year_zero h.0))

pub year_of-IsWithinDays : (day : ℤ) → IsDayInYears day → IsWithinDays (days_from_civil (pos (year_of day)) 1 1) (days_in_year (pos (year_of day))) day
year_of-IsWithinDays day h =
    let found = year_is_last day h in
    record {
      begun = le_passed _ _ found.passed;
      not_ended = elim (cases_lt (suc (year_of day)) 10_000) [
        | inl lt ↦ before_next_year (year_of day) day (lt_failed _ _ (found.next lt))
        | inr ge ↦ before_end (year_of day) day (omega (arith, found.below)) h.1
      ];
    }

-- ---- the month

before_next_month : (year day : ℤ) (before : ℕ) → day <ℤ days_from_civil year (suc (suc before)) 1 → day <ℤ (days_from_civil year (suc before) 1 +ℤ pos (days_in_month year (suc before)))
before_next_month year day before h =
    let more : suc before + 1 ≡ suc (suc before) = omega arith in
    let next = rw more at (day_count-next_month year (suc before) (omega arith)) in
    omega (arith, signed_arith, days_from_civil-day_count)

in_december : (year day : ℤ) (before : ℕ) → before ≡ 11 → day <ℤ (days_from_civil year 1 1 +ℤ pos (days_in_year year)) → day <ℤ (days_from_civil year (suc before) 1 +ℤ pos (days_in_month year (suc before)))
in_december year day before last h = rw last
    (omega (arith, signed_arith, days_from_civil-day_count, day_count-last_of_year year, day_count-day year 12 31 1 (omega arith) (omega arith)))

abbrev months_before : ℤ → ℤ → ℕ
months_before year day = last_below 12 (λ before. int_le (days_from_civil year (suc before) 1) day)

month_is_last : (year day : ℤ) → days_from_civil year 1 1 ≤ℤ day → IsLast 12 (λ before. int_le (days_from_civil year (suc before) 1) day) (months_before year day)
month_is_last year day h = last_below-IsLast 11 (λ before. int_le (days_from_civil year (suc before) 1) day) (le_true _ _ h)

months_before-IsWithinDays : (year day : ℤ) → IsWithinDays (days_from_civil year 1 1) (days_in_year year) day → IsWithinDays (days_from_civil year (suc (months_before year day)) 1) (days_in_month year (suc (months_before year day))) day
months_before-IsWithinDays year day h =
    let found = month_is_last year day h.begun in
    record {
      begun = le_passed _ _ found.passed;
      not_ended = elim (cases_lt (suc (months_before year day)) 12) [
        | inl lt ↦ before_next_month year day _ (lt_failed _ _ (found.next lt))
        | inr ge ↦ in_december year day _ (omega (arith, found.below)) h.not_ended
      ];
    }

pub month_of-IsWithinDays : (day : ℤ) → IsDayInYears day → IsWithinDays (days_from_civil (pos (year_of day)) (month_of day) 1) (days_in_month (pos (year_of day)) (month_of day)) day
unfolding month_of
month_of-IsWithinDays day h = months_before-IsWithinDays (pos (year_of day)) day (year_of-IsWithinDays day h)

month_of-bounds : (day : ℤ) → IsDayInYears day → (1 ≤ month_of day) × (month_of day ≤ 12)
unfolding month_of
month_of-bounds day h =
    let found = month_is_last (pos (year_of day)) day (year_of-IsWithinDays day h).begun in
    (omega arith, omega (arith, found.below))

-- ---- the day of the month

-- how many days a day is after another
days_between : (first day : ℤ) → first ≤ℤ day → first +ℤ pos (unsigned_abs (day -ℤ first)) ≡ day
days_between first day h =
    let n = up day + down first - (down day + up first) in
    let apart : day -ℤ first ≡ pos n = omega (arith, signed_arith) in
    rw apart (omega (arith, signed_arith))

-- the date that is found is a date of the calendar
pub civil_of : (day : ℤ) → IsDayInYears day → IsCivilDate (pos (year_of day)) (month_of day) (day_of_month day)
unfolding day_of_month
civil_of day h =
    let year = year_is_last day h in
    let month = month_of-bounds day h in
    let within = month_of-IsWithinDays day h in
    let behind = days_between _ day within.begun in (
      (omega (arith, signed_arith), omega (arith, signed_arith, year.below)),
      month,
      (omega arith, omega (arith, signed_arith, within.not_ended)),
    )

-- and its number is the day's
pub number_of_civil : (day : ℤ) → IsDayInYears day → days_from_civil (pos (year_of day)) (month_of day) (day_of_month day) ≡ day
unfolding day_of_month
number_of_civil day h =
    let within = month_of-IsWithinDays day h in
    let behind = days_between _ day within.begun in
    let later = days_from_civil-day (pos (year_of day)) (month_of day) (suc (unsigned_abs (day -ℤ days_from_civil (pos (year_of day)) (month_of day) 1))) 1 (omega arith) (omega arith) in
    omega (arith, signed_arith)
