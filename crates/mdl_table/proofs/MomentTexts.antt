-- The text that is written of a date and a second is the moment's, and which moments have a text.
use Rattle.std.proofs.Common.{◌≡◌, ℕ, ◌/◌, ◌%◌, ◌<◌, inl, inr, refl, sym, ap, ◌∙◌, arith, rules, Bool, true, false, ◌&&◌, ℤ, pos, negsuc, ◌+ℤ◌, ◌*ℤ◌, ◌<ℤ◌, ◌≤ℤ◌, List, ◌++◌, Some, None, unsigned_abs}
use Rattle.std.specs.Prelude.{codes, int_le, if◌then◌else◌}
use Rattle.std.specs.Int.{int_div_euclid, int_rem_euclid}
use Rattle.jiff_core.specs.declared.civil.date.Date.{Date}
use Rattle.jiff_core.specs.Date.{epoch_day}
use Rattle.jiff_core.proofs.SignedLemmas.{signed_arith}
use Rattle.jiff_core.proofs.DateLemmas.{epoch_day_range, epoch_day-lt, cases_date, epoch_day_same, epoch_day_injective}
use Rattle.mdl_table.specs.MomentText.{date_text, time_text, text_at, text_of, year_of, month_of, day_of_month, IsInYears, IsDayInYears}
use Rattle.mdl_table.proofs.CivilDays.{year_zero, civil_of, number_of_civil, le_true, le_passed}

-- ---- the years from 0 on

-- 1 January of the year 0
first_day : Date
first_day = record { year = pos 0; month = 1; day = 1; year_in = search rules; month_in = search rules; day_in = search rules }

-- the days from there on are those of the years from 0 on
pub from_year_zero : (date : Date) → pos 0 ≤ℤ date.year → IsDayInYears (epoch_day date)
unfolding first_day
from_year_zero date h = (
  elim (cases_date first_day date) [
    | inl later ↦ omega (arith, signed_arith, epoch_day-lt first_day date later, year_zero)
    | inr (inl (inl before)) ↦ absurd (omega (arith, signed_arith))
    | inr (inl (inr (same, inl before))) ↦ absurd (omega (arith, date.month_in))
    | inr (inl (inr (same, inr before))) ↦ absurd (omega (arith, date.day_in))
    | inr (inr same) ↦ omega (arith, signed_arith, epoch_day_same first_day date same.0 same.1 same.2, year_zero)
  ],
  (epoch_day_range date).1,
)

pub before_year_zero : (date : Date) → date.year <ℤ pos 0 → IsDayInYears (epoch_day date) → ⊥
unfolding first_day
before_year_zero date h is = omega (arith, signed_arith, epoch_day-lt date first_day (inl h), year_zero)

-- ---- which moments have a text

-- the second of a day, from the moment of its midnight on
pub record IsSecondOf (moment day : ℤ) (second : ℕ) : Type 0 where
  pub whole : moment ≡ day *ℤ pos 86_400 +ℤ pos second
  pub within : second < 86_400

pub in_years : (moment day : ℤ) (second : ℕ) → IsSecondOf moment day second → IsDayInYears day → IsInYears moment
in_years moment day second is h = (omega (arith, signed_arith, is.whole), omega (arith, signed_arith, is.whole))

pub not_in_years : (moment day : ℤ) (second : ℕ) → IsSecondOf moment day second → (IsDayInYears day → ⊥) → IsInYears moment → ⊥
not_in_years moment day second is h years = h (omega (arith, signed_arith, is.whole), omega (arith, signed_arith, is.whole))

text_of-in : (moment : ℤ) → IsInYears moment → text_of moment ≡ Some (text_at (int_div_euclid moment (pos 86_400)) (unsigned_abs (int_rem_euclid moment (pos 86_400))))
unfolding text_of
text_of-in moment is = rw (le_true (negsuc 62_167_219_199) moment is.0, le_true moment (pos 253_402_300_799) is.1) refl

pub text_of-outside : (moment : ℤ) → (IsInYears moment → ⊥) → text_of moment ≡ None
unfolding text_of
text_of-outside moment h = go (int_le (negsuc 62_167_219_199) moment) (int_le moment (pos 253_402_300_799)) refl refl where
  go : (low high : Bool) → int_le (negsuc 62_167_219_199) moment ≡ low → int_le moment (pos 253_402_300_799) ≡ high → (if low && high then Some (text_at (int_div_euclid moment (pos 86_400)) (unsigned_abs (int_rem_euclid moment (pos 86_400)))) else None) ≡ None
  go true true l r = absurd (h (le_passed _ _ l, le_passed _ _ r))
  go true false l r = refl
  go false high l r = refl

-- ---- the text of a date and a second of that day

-- the date that is found for the number of a day
found : (day : ℤ) → IsDayInYears day → Date
found day h =
    let is = civil_of day h in
    record { year = pos (year_of day); month = month_of day; day = day_of_month day; year_in = is.0; month_in = is.1; day_in = is.2 }

-- is the one date with that number
found-parts : (date : Date) (day : ℤ) → IsDayInYears day → epoch_day date ≡ day → (date.year ≡ pos (year_of day)) × (date.month ≡ month_of day) × (date.day ≡ day_of_month day)
unfolding found
found-parts date day h e = epoch_day_injective date (found day h) (e ∙ sym (number_of_civil day h))

abbrev pub text_from : Date → ℕ → List ℕ
text_from date second =
    date_text (unsigned_abs date.year) date.month date.day ++ codes "T"
    ++ time_text (second / 3600) (second / 60 % 60) (second % 60) ++ codes "Z"

text_from-parts : (date : Date) (day : ℤ) (second : ℕ) → date.year ≡ pos (year_of day) → date.month ≡ month_of day → date.day ≡ day_of_month day → text_from date second ≡ text_at day second
text_from-parts date day second year month of_month = rw (year, month, of_month) refl

text_at-same : (day day' : ℤ) (second second' : ℕ) → day ≡ day' → second ≡ second' → text_at day second ≡ text_at day' second'
text_at-same day day' second second' e f = rw (e, f) refl

pub text_of-date : (date : Date) (moment day : ℤ) (second : ℕ) → IsSecondOf moment day second → epoch_day date ≡ day → pos 0 ≤ℤ date.year → text_of moment ≡ Some (text_from date second)
text_of-date date moment day second is e h =
    let in_range : IsDayInYears day = rw e at (from_year_zero date h) in
    let day_is : int_div_euclid moment (pos 86_400) ≡ day = omega (arith, signed_arith, is.whole, is.within) in
    let second_is : unsigned_abs (int_rem_euclid moment (pos 86_400)) ≡ second = omega (arith, signed_arith, is.whole, is.within) in
    let parts = found-parts date day in_range e in
    text_of-in moment (in_years moment day second is in_range)
    ∙ ap Some (text_at-same _ _ _ _ day_is second_is ∙ sym (text_from-parts date day second parts.0 parts.1 parts.2))
