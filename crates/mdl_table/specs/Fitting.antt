-- Whether a value fits the row of its element.
use Rattle.std.specs.Prelude.{ℕ, Bool, true, ◌==◌, ◌&&◌, nat_lt, is_some, if◌then◌else◌, List, length, Option, Some, None, option_and_then, Result, Ok, Err}
use Rattle.std.specs.Char.{is_ascii_uppercase}
use Rattle.std.specs.Int.{is_in_range}
use Rattle.std.specs.List.{list_all, list_any}
use Rattle.std.specs.Str.{chars}
use Rattle.cbor_view.specs.Tree.{Tree, text_of, bytes_of, uint_of, boolean_of, tag_of, items_of, pairs_of}
use Rattle.mdl_table.specs.declared.row_fault.RowFault.{RowFault}
use Rattle.mdl_table.specs.declared.row_fault.RowFault.TheVariants.{KindWrong, DateWrong, RangeWrong}
use Rattle.mdl_table.specs.Calendar.{day_of, moment_of}
use Rattle.mdl_table.specs.Elements.{Kind, text, country, date, moment, day, bytes, number, choice, truth, maps, Element, element_at, number_of}

-- a value that isn't of the kind, and one that is and passes a test or has that fault
abbrev pub checked : {A : Type 0} → (A → Bool) → RowFault → Option A → Result (Unit {0}) RowFault
checked passes fault None = Err KindWrong
checked passes fault (Some value) = if passes value then Ok tt else Err fault

-- the text under a tag
abbrev pub under_tag : ℕ → ℕ × Tree → Option (List ℕ)
under_tag n tagged = if tagged.0 == n then text_of tagged.1 else None

abbrev pub tagged_text : ℕ → Tree → Option (List ℕ)
tagged_text n value = option_and_then (under_tag n) (tag_of value)

-- 1 to 150 characters; two letters from A to Z
abbrev pub is_short : List ℕ → Bool
is_short said = is_in_range 1 150 (length (chars said))

abbrev pub is_country : List ℕ → Bool
is_country said = length said == 2 && list_all is_ascii_uppercase said

abbrev pub is_map : Tree → Bool
is_map item = is_some (pairs_of item)

-- tag 1004 over a date (RFC 8943), tag 0 over a moment (RFC 8949, section 3.4.1)
abbrev pub fits_date : Tree → Result (Unit {0}) RowFault
fits_date value = checked (λ said. is_some (day_of said)) DateWrong (tagged_text 1004 value)

abbrev pub fits_moment : Tree → Result (Unit {0}) RowFault
fits_moment value = checked (λ said. is_some (moment_of said)) DateWrong (tagged_text 0 value)

abbrev pub fits_kind : Kind → Tree → Result (Unit {0}) RowFault
fits_kind text value = checked is_short RangeWrong (text_of value)
fits_kind country value = checked is_country RangeWrong (text_of value)
fits_kind date value = fits_date value
fits_kind moment value = fits_moment value
fits_kind day value = if is_some (tagged_text 1004 value) then fits_date value else fits_moment value
fits_kind bytes value = checked (λ said. nat_lt 0 (length said)) RangeWrong (bytes_of value)
fits_kind (number low high) value = checked (is_in_range low high) RangeWrong (uint_of value)
fits_kind (choice numbers) value = checked (λ said. list_any (λ n. n == said) numbers) RangeWrong (uint_of value)
fits_kind truth value = checked (λ said. true) KindWrong (boolean_of value)
fits_kind maps value = checked (list_all is_map) KindWrong (items_of value)

-- a value of an element without a row fits
abbrev pub fits_row : Option Element → Tree → Result (Unit {0}) RowFault
fits_row None value = Ok tt
fits_row (Some e) value = fits_kind e.kind value

abbrev pub fits : List ℕ → Tree → Result (Unit {0}) RowFault
fits name value = fits_row (option_and_then element_at (number_of name)) value
