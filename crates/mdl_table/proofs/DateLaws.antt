-- A text is read as a day exactly where it names the day.
use Rattle.std.proofs.Common.{◌≡◌, ℕ, ◌+◌, ◌*◌, ◌/◌, ◌%◌, ◌<◌, refl, sym, ap, ◌∙◌, arith, Bool, true, false, ℤ, pos, List, [], ◌++◌, Some, None}
use Rattle.std.specs.Prelude.{codes, if◌then◌else◌}
use Rattle.jiff_core.specs.Calendar.{days_from_civil}
use Rattle.mdl_table.specs.Form.{has_form, two_at, four_at}
use Rattle.mdl_table.specs.Calendar.{is_day, day_number, day_at_front, day_of}
use Rattle.mdl_table.specs.MomentText.{two_digits, date_text, NamesDay}
use Rattle.mdl_table.proofs.MomentLaws.{digits, day_fits}
use Rattle.mdl_table.proofs.MomentForm.{front_two, front_one, nothing_left, four_then, then_two, then_one}

pub record DateFit (year month day : ℕ) : Type 0 where
  pub years : year < 10_000
  pub months : month < 100
  pub days : day < 100

has_form-date_text : (year month day : ℕ) → DateFit year month day → has_form (codes "0000-00-00") (date_text year month day) ≡ true
unfolding has_form
has_form-date_text year month day fit =
    let century = digits (year / 100) (omega (arith, fit.years)) in
    let of_century = digits (year % 100) (omega arith) in
    let months = digits month fit.months in
    let days = digits day fit.days in
    rw (century.0, century.1, of_century.0, of_century.1, months.0, months.1, days.0, days.1) refl

day_of-date_text : (year month day : ℕ) → DateFit year month day → day_of (date_text year month day) ≡ day_number year month day
unfolding day_of
day_of-date_text year month day fit =
    let year_is : four_at (date_text year month day) 0 ≡ year = omega (arith, fit.years) in
    let month_is : two_at (date_text year month day) 5 ≡ month = omega (arith, fit.months) in
    let day_is : two_at (date_text year month day) 8 ≡ day = omega (arith, fit.days) in
    rw (has_form-date_text year month day fit, year_is, month_is, day_is) refl

record WrittenDate (text : List ℕ) : Type 0 where
  year : ℕ
  month : ℕ
  day : ℕ
  fit : DateFit year month day
  is_text : text ≡ date_text year month day

written_date : (text : List ℕ) → has_form (codes "0000-00-00") text ≡ true → WrittenDate text
written_date text is =
    let century = front_two (codes "00-00-00") text is in
    let of_century = front_two (codes "-00-00") century.rest century.behind in
    let dash = front_one 45 (codes "00-00") of_century.rest refl of_century.behind in
    let months = front_two (codes "-00") dash.rest dash.behind in
    let dash_2 = front_one 45 (codes "00") months.rest refl months.behind in
    let days = front_two [] dash_2.rest dash_2.behind in
    let end = nothing_left days.rest days.behind in
    record {
      year = 100 * century.two + of_century.two;
      month = months.two;
      day = days.two;
      fit = record {
        years = omega (arith, century.below, of_century.below);
        months = months.below;
        days = days.below;
      };
      is_text =
          then_two century.two century.front (then_two of_century.two of_century.front
          (then_one 45 dash.front (then_two months.two months.front (then_one 45 dash_2.front (then_two days.two days.front end)))))
          ∙ four_then century.two of_century.two (codes "-" ++ two_digits months.two ++ codes "-" ++ two_digits days.two)
          century.below of_century.below;
    }

form_of_date : (text : List ℕ) (number : ℤ) → day_of text ≡ Some number → has_form (codes "0000-00-00") text ≡ true
unfolding day_of
form_of_date text number is = go (has_form (codes "0000-00-00") text) refl is where
  go : (form : Bool) → has_form (codes "0000-00-00") text ≡ form →
      (if form then day_at_front text else None) ≡ Some number →
      has_form (codes "0000-00-00") text ≡ true
  go true form e = form
  go false form e = cc

-- a text that is read as a day names it
pub NamesDay-day_of : (text : List ℕ) (number : ℤ) → day_of text ≡ Some number → NamesDay text number
NamesDay-day_of text number is =
    let w = written_date text (form_of_date text number is) in
    record {
      year = w.year;
      month = w.month;
      day = w.day;
      is_text = w.is_text;
      is_number = sym (day_of-date_text w.year w.month w.day w.fit) ∙ sym (ap day_of w.is_text) ∙ is;
    }

-- and a text that names a day is read as that day
date_fit : (year month day : ℕ) (number : ℤ) → day_number year month day ≡ Some number → DateFit year month day
date_fit year month day number is = go (is_day year month day) refl is where
  go : (b : Bool) → is_day year month day ≡ b →
      (if b then Some (days_from_civil (pos year) month day) else None) ≡ Some number →
      DateFit year month day
  go true e h = let fits = day_fits year month day e in record { years = fits.0; months = fits.1; days = fits.2 }
  go false e h = cc

pub day_of-NamesDay : (text : List ℕ) (number : ℤ) → NamesDay text number → day_of text ≡ Some number
day_of-NamesDay text number is =
    ap day_of is.is_text
    ∙ day_of-date_text is.year is.month is.day (date_fit is.year is.month is.day number is.is_number)
    ∙ is.is_number
