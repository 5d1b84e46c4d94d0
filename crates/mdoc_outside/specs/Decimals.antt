-- The decimal numbers of line files.
use Rattle.std.specs.Prelude.{ℕ, ◌^◌, ◌==◌, ◌&&◌, ◌||◌, List, Bool, Option, Some, None, not, length, slice_index, nat_lt, if◌then◌else◌}
use Rattle.std.specs.Char.{is_ascii_digit}
use Rattle.std.specs.List.{list_all}
use Rattle.std.specs.Str.Parse.{digits_value}

-- decimal digits, without a leading zero but for `0` itself
abbrev pub is_decimal : List ℕ → Bool
is_decimal word =
    not (length word == 0) && list_all is_ascii_digit word
    && (length word == 1 || not (slice_index word 0 == 48))

-- a decimal number below 2^64
unfoldable pub decimal_number : List ℕ → Option ℕ
decimal_number word =
    if is_decimal word && nat_lt (digits_value 10 word) (2 ^ 64) then Some (digits_value 10 word) else None
