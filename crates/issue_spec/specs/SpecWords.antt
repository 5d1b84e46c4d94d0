-- The words of a line of a spec file.
use Rattle.std.specs.Prelude.{ℕ, ◌^◌, ◌==◌, ◌&&◌, nat_lt, nat_le, List, [], ◌∷◌, Bool, true, false, Option, Some, None, codes, if◌then◌else◌}
use Rattle.std.specs.Result.{result_ok}
use Rattle.std.specs.Str.{bytes_eq}
use Rattle.hex.specs.Hex.{decode_of}
use Rattle.mdl_table.specs.Form.{has_form}
use Rattle.mdoc_outside.specs.Decimals.{decimal_number}
use Rattle.mdoc_outside.specs.Lines.{after_spaces}
use Rattle.mdoc_outside.specs.OptionSteps.{◌>>=◌, where_true}
use Rattle.mdoc_outside.specs.WordForm.{is_name}

-- a name, as a word says it
abbrev pub name_of : List ℕ → Option (List ℕ)
name_of word = where_true (is_name word) word

-- a number from the least to the most
abbrev pub number_within : ℕ → ℕ → List ℕ → Option ℕ
number_within least most word = decimal_number word >>= λ number. where_true (nat_le least number && nat_le number most) number

-- `true` or `false`
abbrev pub truth_of : List ℕ → Option Bool
truth_of word = if bytes_eq word (codes "true") then Some true else if bytes_eq word (codes "false") then Some false else None

-- bytes in hexadecimal digits of either case, two for each, and `-` for no bytes
abbrev pub bytes_of : List ℕ → Option (List ℕ)
bytes_of word = if bytes_eq word (codes "-") then Some [] else result_ok (decode_of word)

-- YYYY-MM-DD in digits, whether or not the calendar has the day
abbrev pub date_of : List ℕ → Option (List ℕ)
date_of word = where_true (has_form (codes "0000-00-00") word) word

-- what stands after the first word, from a space on
abbrev pub behind_word : List ℕ → List ℕ
behind_word [] = []
behind_word (b ∷ bytes) = if b == 32 then b ∷ bytes else behind_word bytes

-- what stands after four words of a line, from a space on
abbrev pub after_four_words : List ℕ → List ℕ
after_four_words bytes =
    behind_word (after_spaces (behind_word (after_spaces (behind_word (after_spaces (behind_word (after_spaces bytes)))))))

-- what stands after one space
abbrev pub after_space : List ℕ → Option (List ℕ)
after_space [] = None
after_space (b ∷ bytes) = where_true (b == 32) bytes
