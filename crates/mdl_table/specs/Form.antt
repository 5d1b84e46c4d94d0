-- Texts of a fixed form, and the numbers that stand in them.
use Rattle.std.specs.Prelude.{ℕ, ◌+◌, ◌-◌, ◌*◌, Bool, ◌==◌, ◌&&◌, if◌then◌else◌, List, length, slice_index}
use Rattle.std.specs.Char.{is_ascii_digit}
use Rattle.std.specs.List.{zip, list_all}

-- what a form has at a place: `0` stands for any digit, another byte for itself
abbrev pub stands_for : ℕ → ℕ → Bool
stands_for wanted byte = if wanted == 48 then is_ascii_digit byte else byte == wanted

-- a text of the form's length that has at each place what the form has
unfoldable pub has_form : List ℕ → List ℕ → Bool
has_form form text = length form == length text && list_all (λ both. stands_for both.0 both.1) (zip form text)

-- the number of the two digits from a place on
abbrev pub two_at : List ℕ → ℕ → ℕ
two_at text place = 10 * (slice_index text place - 48) + (slice_index text (place + 1) - 48)

-- the number of the four digits from a place on
abbrev pub four_at : List ℕ → ℕ → ℕ
four_at text place = 100 * two_at text place + two_at text (place + 2)
