-- Which bytes are a word of a line file, and which words are names.
use Rattle.std.specs.Prelude.{ℕ, List, Bool, ◌==◌, ◌&&◌, not, nat_le, length}
use Rattle.std.specs.Char.{is_ascii_graphic}
use Rattle.std.specs.List.{list_all}

-- at least one byte, each from 21 to 7e (hexadecimal)
abbrev pub is_word : List ℕ → Bool
is_word bytes = not (length bytes == 0) && list_all is_ascii_graphic bytes

-- a word of at most 128 bytes
abbrev pub is_name : List ℕ → Bool
is_name word = is_word word && nat_le (length word) 128
