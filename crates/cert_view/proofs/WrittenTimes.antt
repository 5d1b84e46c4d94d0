-- The time that is written of a moment is read as that moment.
use Rattle.std.proofs.Common.{◌≡◌, ℕ, ◌+◌, ◌/◌, ◌%◌, ◌≤◌, inl, inr, refl, sym, ap, ◌∙◌, arith, rules, true, false, ℤ, pos, negsuc, ◌<ℤ◌, ◌≤ℤ◌, List, [], ◌∷◌, ◌++◌, drop, Some, unsigned_abs}
use Rattle.std.specs.Prelude.{int_lt, nat_lt, if◌then◌else◌}
use Rattle.std.specs.Int.{int_div_euclid, int_rem_euclid}
use Rattle.std.proofs.lemmas.Bool.{cases_lt}
use Rattle.std.proofs.lemmas.Bool.Decides.{nat_tests}
use Rattle.jiff_core.specs.declared.civil.date.Date.{Date}
use Rattle.jiff_core.specs.Calendar.{days_from_civil, day_count, days_of_years, days_of_months}
use Rattle.jiff_core.proofs.SignedLemmas.{signed_arith}
use Rattle.jiff_core.proofs.DateLemmas.{epoch_day-lt}
use Rattle.mdl_table.specs.Calendar.{moment_of}
use Rattle.mdl_table.specs.MomentText.{text_at, text_of, year_of, month_of, day_of_month, IsDayInYears}
use Rattle.mdl_table.proofs.CivilDays.{civil_of, number_of_civil, le_true}
use Rattle.mdl_table.proofs.MomentLaws.{moment_of-Says, text_of-Says}
use Rattle.cert_view.specs.Times.{with_signs, generalized_time, century, utc_time}
use Rattle.cert_view.specs.Written.{IsTime, time_text, without_signs}
use borrow.Author.Differences.{lt-true}

pub lt_passed : (a b : ℤ) → int_lt a b ≡ true → a <ℤ b
lt_passed a b e = let parts = lt-true a b e in omega (arith, signed_arith)

abbrev day : ℤ → ℤ
day moment = int_div_euclid moment (pos 86_400)

abbrev text : ℤ → List ℕ
text moment = text_at (day moment) (unsigned_abs (int_rem_euclid moment (pos 86_400)))

text-is : (moment : ℤ) → IsTime moment → text_of moment ≡ Some (text moment)
unfolding text_of
text-is moment is =
    rw (le_true (negsuc 62_167_219_199) moment (omega (arith, signed_arith, is.first)), le_true moment (pos 253_402_300_799) is.last) refl

time-text : (moment : ℤ) → IsTime moment → time_text moment ≡ without_signs (text moment)
time-text moment is = rw (text-is moment is) refl

signs-again : (number : ℤ) (second : ℕ) → with_signs (without_signs (text_at number second)) ≡ text_at number second
signs-again number second = refl

pub generalized-read : (moment : ℤ) → IsTime moment → generalized_time (time_text moment) ≡ Some moment
unfolding generalized_time
generalized-read moment is =
    ap (λ (t : List ℕ). moment_of (with_signs t)) (time-text moment is)
    ∙ ap moment_of (signs-again (day moment) (unsigned_abs (int_rem_euclid moment (pos 86_400))))
    ∙ moment_of-Says (text moment) moment (text_of-Says moment (text moment) (text-is moment is))

-- ---- before 2050

-- the date of the number of a day, and two days
date_of : (number : ℤ) → IsDayInYears number → Date
date_of number within =
    let is = civil_of number within in
    record { year = pos (year_of number); month = month_of number; day = day_of_month number; year_in = is.0; month_in = is.1; day_in = is.2 }

first_of_1950 : Date
first_of_1950 = record { year = pos 1950; month = 1; day = 1; year_in = search rules; month_in = search rules; day_in = search rules }

last_of_2049 : Date
last_of_2049 = record { year = pos 2049; month = 12; day = 31; year_in = search rules; month_in = search rules; day_in = search rules }

begun : days_from_civil (pos 1950) 1 1 ≡ negsuc 7304
unfolding days_from_civil day_count days_of_years days_of_months
begun = refl

ended : days_from_civil (pos 2049) 12 31 ≡ pos 29_219
unfolding days_from_civil day_count days_of_years days_of_months
ended = refl

from-1950 : (number : ℤ) → IsDayInYears number → negsuc 7304 ≤ℤ number → 1950 ≤ year_of number
unfolding date_of first_of_1950
from-1950 number within first = elim (cases_lt (year_of number) 1950) [
  | inl lt ↦ absurd (let earlier = epoch_day-lt (date_of number within) first_of_1950 (inl (omega (arith, signed_arith, lt))) in
      let is = number_of_civil number within in
      omega (arith, signed_arith, begun))
  | inr ge ↦ ge
]

to-2049 : (number : ℤ) → IsDayInYears number → number ≤ℤ pos 29_219 → year_of number ≤ 2049
unfolding date_of last_of_2049
to-2049 number within last = elim (cases_lt 2049 (year_of number)) [
  | inl lt ↦ absurd (let later = epoch_day-lt last_of_2049 (date_of number within) (inl (omega (arith, signed_arith, lt))) in
      let is = number_of_civil number within in
      omega (arith, signed_arith, ended))
  | inr ge ↦ ge
]

two-cells : (a b c d : ℕ) → a ≡ c → b ≡ d → a ∷ b ∷ [] ≡ c ∷ d ∷ []
two-cells a b c d e f = rw (e, f) refl

century-is : (year : ℕ) → 1950 ≤ year → year ≤ 2049 → (if nat_lt (48 + year % 100 / 10) 53 then 50 ∷ 48 ∷ [] else 49 ∷ 57 ∷ []) ≡ (48 + year / 100 / 10) ∷ (48 + year / 100 % 10) ∷ []
century-is year first last = elim (cases_lt year 2000) [
  | inl lt ↦ (let high : nat_lt (48 + year % 100 / 10) 53 ≡ false = grind (arith, nat_tests) in rw high (two-cells _ _ _ _ (omega arith) (omega arith)))
  | inr ge ↦ (let low : nat_lt (48 + year % 100 / 10) 53 ≡ true = grind (arith, nat_tests) in rw low (two-cells _ _ _ _ (omega arith) (omega arith)))
]

century-again : (number : ℤ) (second : ℕ) → 1950 ≤ year_of number → year_of number ≤ 2049 → century (drop 2 (without_signs (text_at number second))) ++ drop 2 (without_signs (text_at number second)) ≡ without_signs (text_at number second)
century-again number second first last =
    ap (λ (c : List ℕ). c ++ drop 2 (without_signs (text_at number second))) (century-is (year_of number) first last)

pub utc-read : (moment : ℤ) → IsTime moment → moment <ℤ pos 2_524_608_000 → utc_time (drop 2 (time_text moment)) ≡ Some moment
unfolding utc_time
utc-read moment is before =
    let within : IsDayInYears (day moment) = (omega (arith, signed_arith, is.first), omega (arith, signed_arith)) in
    let first : negsuc 7304 ≤ℤ day moment = omega (arith, signed_arith, is.first) in
    let last : day moment ≤ℤ pos 29_219 = omega (arith, signed_arith) in
    let whole = century-again (day moment) (unsigned_abs (int_rem_euclid moment (pos 86_400))) (from-1950 (day moment) within first) (to-2049 (day moment) within last) in
    ap (λ (t : List ℕ). generalized_time (century (drop 2 t) ++ drop 2 t)) (time-text moment is)
    ∙ ap generalized_time whole
    ∙ ap generalized_time (sym (time-text moment is))
    ∙ generalized-read moment is
