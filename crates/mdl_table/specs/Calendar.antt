-- Dates and moments as texts, in UTC, in the years 0 to 9999 (RFC 3339, section 5.6; RFC 8949,
-- section 3.4.1, tag 0; RFC 8943, tag 1004). Seconds are those of Unix time, so no day has a leap second.
use Rattle.std.specs.Prelude.{ℕ, ◌+◌, ◌*◌, Bool, ◌&&◌, nat_le, nat_lt, if◌then◌else◌, ℤ, pos, ◌+ℤ◌, ◌*ℤ◌, List, codes, Option, Some, None}
use Rattle.jiff_core.specs.Calendar.{days_in_month, days_from_civil}
use Rattle.mdl_table.specs.Form.{has_form, two_at, four_at}

-- whether the calendar has this day
abbrev pub is_day : ℕ → ℕ → ℕ → Bool
is_day year month day =
    nat_le year 9999 && nat_le 1 month && nat_le month 12 && nat_le 1 day && nat_le day (days_in_month (pos year) month)

-- the number of the day, 0 for 1 January 1970
abbrev pub day_number : ℕ → ℕ → ℕ → Option ℤ
day_number year month day =
    if is_day year month day then Some (days_from_civil (pos year) month day) else None

-- the day of a text that begins with a date of the form YYYY-MM-DD
abbrev pub day_at_front : List ℕ → Option ℤ
day_at_front text = day_number (four_at text 0) (two_at text 5) (two_at text 8)

-- the day that a text of the form YYYY-MM-DD names, where the calendar has it
unfoldable pub day_of : List ℕ → Option ℤ
day_of text = if has_form (codes "0000-00-00") text then day_at_front text else None

-- the second of the day, 0 for midnight
abbrev pub second_number : ℕ → ℕ → ℕ → Option ℕ
second_number hour minute second =
    if nat_lt hour 24 && nat_lt minute 60 && nat_lt second 60
    then Some (3600 * hour + 60 * minute + second) else None

-- the seconds from 1 January 1970, 00:00 on, of a second of a day
abbrev pub moment_at : Option ℤ → Option ℕ → Option ℤ
moment_at (Some day) (Some second) = Some (day *ℤ pos 86_400 +ℤ pos second)
moment_at day second = None

-- the moment that a text of the form YYYY-MM-DDTHH:MM:SSZ names, where the calendar has its day
unfoldable pub moment_of : List ℕ → Option ℤ
moment_of text =
    if has_form (codes "0000-00-00T00:00:00Z") text
    then moment_at (day_at_front text) (second_number (two_at text 11) (two_at text 14) (two_at text 17))
    else None
