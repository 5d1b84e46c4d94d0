-- The lines of this project's line files, and the words of a line. A line ends with a line feed
-- (0a), and the last one needs none. A carriage return (0d) before the line feed is dropped.
-- All lines are numbered from 1.
use Rattle.std.specs.Prelude.{ℕ, ◌==◌, List, [], ◌∷◌, Bool, true, false, if◌then◌else◌, filter, map, not, reverse}
use Rattle.std.specs.List.{enumerate_from, slice_split}
use Rattle.std.specs.Str.Lines.{lines}

pub record Line : Type 0 where
  pub number : ℕ
  pub bytes : List ℕ

-- without the spaces (20) in front
abbrev pub after_spaces : List ℕ → List ℕ
after_spaces [] = []
after_spaces (b ∷ bytes) = if b == 32 then after_spaces bytes else b ∷ bytes

-- without the spaces at its end
abbrev pub before_spaces : List ℕ → List ℕ
before_spaces bytes = reverse (after_spaces (reverse bytes))

-- without the spaces at both ends
abbrev pub trimmed : List ℕ → List ℕ
trimmed bytes = before_spaces (after_spaces bytes)

-- blank lines, and those that begin with # (23), are ignored
abbrev pub is_kept : List ℕ → Bool
is_kept [] = false
is_kept (b ∷ bytes) = not (b == 35)

abbrev pub trimmed_line : ℕ × List ℕ → Line
trimmed_line line = record { number = line.0; bytes = trimmed line.1 }

-- the lines that are kept of a text whose first line has this number
unfoldable pub lines_from : ℕ → List ℕ → List Line
lines_from first text =
    filter (λ line. is_kept line.bytes) (map trimmed_line (enumerate_from first (lines text)))

-- the lines that are kept of a whole text
abbrev pub file_lines : List ℕ → List Line
file_lines text = lines_from 1 text

abbrev pub is_part : List ℕ → Bool
is_part [] = false
is_part (b ∷ bytes) = true

-- the parts between runs of one or more spaces
unfoldable pub words : List ℕ → List (List ℕ)
words bytes = filter is_part (slice_split (λ b. b == 32) bytes)
