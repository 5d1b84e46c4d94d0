-- A text that is read as a moment says it.
use Rattle.std.proofs.Common.{◌≡◌, ℕ, suc, ◌+◌, ◌-◌, ◌*◌, ◌/◌, ◌%◌, ◌<◌, ◌≤◌, refl, sym, ap, ◌∙◌, arith, Bool, true, false, ◌&&◌, ℤ, List, [], ◌∷◌, ◌++◌, length, Some, None}
use Rattle.std.specs.Prelude.{codes, if◌then◌else◌, nat_eq}
use Rattle.std.specs.Char.{is_ascii_digit}
use Rattle.std.proofs.Math.Dec.{eqb-suc-suc}
use Rattle.std.proofs.lemmas.Bool.{eqb-true}
use Rattle.std.proofs.lemmas.Bool.Decides.{nat_tests}
use Rattle.mdl_table.specs.Form.{stands_for, has_form, two_at}
use Rattle.mdl_table.specs.Calendar.{day_at_front, second_number, moment_at, moment_of}
use Rattle.mdl_table.specs.MomentText.{two_digits, four_digits, time_text, Says}
use Rattle.mdl_table.proofs.MomentLaws.{Fit, said, has_form-said, said-ReadAs, moment_of-read}

-- ---- a text of the form of a moment is written from its digits

and_parts : (a b : Bool) → (a && b) ≡ true → (a ≡ true) × (b ≡ true)
and_parts true b h = (refl, h)
and_parts false b h = cc

lengths : (m n : ℕ) (b : Bool) → (nat_eq m n && b) ≡ true → m ≡ n
lengths m n b is = eqb-true m n (and_parts (nat_eq m n) b is).0

digit_bounds : (byte : ℕ) → is_ascii_digit byte ≡ true → (48 ≤ byte) × (byte < 58)
digit_bounds byte is = grind (arith, nat_tests)

cons_same : {a b : ℕ} {xs ys : List ℕ} → a ≡ b → xs ≡ ys → a ∷ xs ≡ b ∷ ys
cons_same e f = rw (e, f) refl

same_length-one : (form text : List ℕ) → nat_eq (suc (length form)) (suc (length text)) ≡ true → nat_eq (length form) (length text) ≡ true
same_length-one form text e = sym (eqb-suc-suc (length form) (length text)) ∙ e

same_length : (form text : List ℕ) → nat_eq (suc (suc (length form))) (suc (suc (length text))) ≡ true → nat_eq (length form) (length text) ≡ true
same_length form text e = sym (eqb-suc-suc (length form) (length text)) ∙ sym (eqb-suc-suc (suc (length form)) (suc (length text))) ∙ e

-- two digits stand at the front
pub record Two (form text : List ℕ) : Type 0 where
  pub two : ℕ
  pub rest : List ℕ
  pub below : two < 100
  pub front : text ≡ two_digits two ++ rest
  pub behind : has_form form rest ≡ true

pub front_two : (form text : List ℕ) → has_form (48 ∷ 48 ∷ form) text ≡ true → Two form text
unfolding has_form
front_two form [] is = let same = lengths (suc (suc (length form))) 0 true is in absurd (omega arith)
front_two form (a ∷ []) is =
    let same = lengths (suc (suc (length form))) 1 (stands_for 48 a && true) is in absurd (omega arith)
front_two form (a ∷ b ∷ rest) is =
    let parts = and_parts _ _ is in
    let first = and_parts _ _ parts.1 in
    let second = and_parts _ _ first.1 in
    let tens = digit_bounds a first.0 in
    let ones = digit_bounds b second.0 in
    let tens_are : a ≡ 48 + (10 * (a - 48) + (b - 48)) / 10 = omega arith in
    let ones_are : b ≡ 48 + (10 * (a - 48) + (b - 48)) % 10 = omega arith in
    record {
      two = 10 * (a - 48) + (b - 48);
      rest = rest;
      below = omega arith;
      front = cons_same tens_are (cons_same ones_are refl);
      behind = rw (same_length form rest parts.0) second.1;
    }

-- a byte of the form stands at the front
pub record One (byte : ℕ) (form text : List ℕ) : Type 0 where
  pub rest : List ℕ
  pub front : text ≡ byte ∷ rest
  pub behind : has_form form rest ≡ true

pub front_one : (byte : ℕ) (form text : List ℕ) → nat_eq byte 48 ≡ false → has_form (byte ∷ form) text ≡ true → One byte form text
unfolding has_form
front_one byte form [] other is = let same = lengths (suc (length form)) 0 true is in absurd (omega arith)
front_one byte form (a ∷ rest) other is =
    let parts = and_parts _ _ is in
    let first = and_parts _ _ (rw other at parts.1) in
    let same : a ≡ byte = eqb-true a byte first.0 in
    record {
      rest = rest;
      front = rw same refl;
      behind = rw (same_length-one form rest parts.0) first.1;
    }

pub nothing_left : (text : List ℕ) → has_form [] text ≡ true → text ≡ []
unfolding has_form
nothing_left [] is = refl
nothing_left (a ∷ rest) is = let same = lengths 0 (suc (length rest)) true is in absurd (omega arith)

four_of_twos : (century year : ℕ) → century < 100 → year < 100 → four_digits (100 * century + year) ≡ two_digits century ++ two_digits year
four_of_twos century year h k =
    let hundreds : (100 * century + year) / 100 ≡ century = omega arith in
    let rest : (100 * century + year) % 100 ≡ year = omega arith in
    rw (hundreds, rest) refl

pub four_then : (century year : ℕ) (text : List ℕ) → century < 100 → year < 100 → two_digits century ++ (two_digits year ++ text) ≡ four_digits (100 * century + year) ++ text
four_then century year text h k = ap (λ (years : List ℕ). years ++ text) (sym (four_of_twos century year h k))

-- what stands at the front, and then the whole of what follows
pub then_two : {text rest whole : List ℕ} (n : ℕ) → text ≡ two_digits n ++ rest → rest ≡ whole → text ≡ two_digits n ++ whole
then_two n front behind = front ∙ ap (λ (r : List ℕ). two_digits n ++ r) behind

pub then_one : {text rest whole : List ℕ} (byte : ℕ) → text ≡ byte ∷ rest → rest ≡ whole → text ≡ byte ∷ whole
then_one byte front behind = front ∙ ap (λ (r : List ℕ). byte ∷ r) behind

-- such a text is written from numbers
record Written (text : List ℕ) : Type 0 where
  year : ℕ
  month : ℕ
  day : ℕ
  hour : ℕ
  minute : ℕ
  second : ℕ
  fit : Fit year month day hour minute second
  is_text : text ≡ said year month day hour minute second

written : (text : List ℕ) → has_form (codes "0000-00-00T00:00:00Z") text ≡ true → Written text
written text is =
    let century = front_two (codes "00-00-00T00:00:00Z") text is in
    let of_century = front_two (codes "-00-00T00:00:00Z") century.rest century.behind in
    let dash = front_one 45 (codes "00-00T00:00:00Z") of_century.rest refl of_century.behind in
    let months = front_two (codes "-00T00:00:00Z") dash.rest dash.behind in
    let dash_2 = front_one 45 (codes "00T00:00:00Z") months.rest refl months.behind in
    let days = front_two (codes "T00:00:00Z") dash_2.rest dash_2.behind in
    let letter = front_one 84 (codes "00:00:00Z") days.rest refl days.behind in
    let hours = front_two (codes ":00:00Z") letter.rest letter.behind in
    let colon = front_one 58 (codes "00:00Z") hours.rest refl hours.behind in
    let minutes = front_two (codes ":00Z") colon.rest colon.behind in
    let colon_2 = front_one 58 (codes "00Z") minutes.rest refl minutes.behind in
    let seconds = front_two (codes "Z") colon_2.rest colon_2.behind in
    let zone = front_one 90 [] seconds.rest refl seconds.behind in
    let end = nothing_left zone.rest zone.behind in
    record {
      year = 100 * century.two + of_century.two;
      month = months.two;
      day = days.two;
      hour = hours.two;
      minute = minutes.two;
      second = seconds.two;
      fit = record {
        years = omega (arith, century.below, of_century.below);
        months = months.below;
        days = days.below;
        hours = hours.below;
        minutes = minutes.below;
        seconds = seconds.below;
      };
      is_text =
          then_two century.two century.front (then_two of_century.two of_century.front
          (then_one 45 dash.front (then_two months.two months.front (then_one 45 dash_2.front (then_two days.two days.front
          (then_one 84 letter.front (then_two hours.two hours.front (then_one 58 colon.front (then_two minutes.two minutes.front
          (then_one 58 colon_2.front (then_two seconds.two seconds.front (then_one 90 zone.front end))))))))))))
          ∙ four_then century.two of_century.two
          (codes "-" ++ two_digits months.two ++ codes "-" ++ two_digits days.two ++ codes "T"
          ++ time_text hours.two minutes.two seconds.two ++ codes "Z")
          century.below of_century.below;
    }

-- what is read as a moment has its form
form_of : (text : List ℕ) (moment : ℤ) → moment_of text ≡ Some moment → has_form (codes "0000-00-00T00:00:00Z") text ≡ true
unfolding moment_of
form_of text moment is = go (has_form (codes "0000-00-00T00:00:00Z") text) refl is where
  go : (form : Bool) → has_form (codes "0000-00-00T00:00:00Z") text ≡ form →
      (if form then moment_at (day_at_front text) (second_number (two_at text 11) (two_at text 14) (two_at text 17)) else None) ≡ Some moment →
      has_form (codes "0000-00-00T00:00:00Z") text ≡ true
  go true form e = form
  go false form e = cc

-- a text that is read as a moment says it
pub Says-moment_of : (text : List ℕ) (moment : ℤ) → moment_of text ≡ Some moment → Says text moment
Says-moment_of text moment is =
    let w = written text (form_of text moment is) in
    let read =
    moment_of-read (said w.year w.month w.day w.hour w.minute w.second) w.year w.month w.day w.hour w.minute w.second
    (has_form-said w.year w.month w.day w.hour w.minute w.second w.fit)
    (said-ReadAs w.year w.month w.day w.hour w.minute w.second w.fit) in
    record {
      year = w.year;
      month = w.month;
      day = w.day;
      hour = w.hour;
      minute = w.minute;
      second = w.second;
      is_text = w.is_text;
      is_moment = sym read ∙ sym (ap moment_of w.is_text) ∙ is;
    }
