-- Numbers as words: decimal digits, without a sign and without leading zeros.
use Rattle.std.specs.Prelude.{ℕ, ◌==◌, List, [], ◌∷◌, length, Bool, false, not, ◌&&◌, nat_le}
use Rattle.std.specs.Str.{all_ascii_digits}
use Rattle.std.specs.Str.Parse.{digits_value}

-- whether a 0 (30) stands before another digit
abbrev pub has_leading_zero : List ℕ → Bool
has_leading_zero [] = false
has_leading_zero (first ∷ []) = false
has_leading_zero (first ∷ (second ∷ rest)) = first == 48

-- whether a word is decimal digits alone
abbrev pub is_plain : List ℕ → Bool
is_plain word = not (length word == 0) && all_ascii_digits word && not (has_leading_zero word)

-- whether a word is a number from the least to the most
abbrev pub is_number : ℕ → ℕ → List ℕ → Bool
is_number least most word = is_plain word && nat_le least (digits_value 10 word) && nat_le (digits_value 10 word) most
