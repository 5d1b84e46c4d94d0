-- What the first line of a text is, and what it adds to the lines that are kept.
use Rattle.std.proofs.Common.{◌≡◌, ℕ, ◌+◌, ◌==◌, List, [], ◌∷◌, true, false, length, refl, ◌∙◌, ap, arith}
use Rattle.std.specs.List.{slice_split}
use Rattle.std.specs.Str.Lines.{lines, lines_of_parts, strip_carriage_return}
use Rattle.std.proofs.lemmas.List.Splits.{length-slice_split}
use Rattle.mdoc_outside.specs.Lines.{trimmed, is_kept, lines_from}

-- the parts of a text are never none
parts_of_lines : (line : List ℕ) (parts : List (List ℕ)) (n : ℕ) → length parts ≡ n + 1 → lines_of_parts (line ∷ parts) ≡ strip_carriage_return line ∷ lines_of_parts parts
parts_of_lines line [] n e = absurd (omega arith)
parts_of_lines line (x ∷ parts) n e = refl

-- the part before the first line feed, less its carriage return, is the first line
pub lines_first : (text line rest : List ℕ) → slice_split (λ b. b == 10) text ≡ line ∷ slice_split (λ b. b == 10) rest → lines text ≡ strip_carriage_return line ∷ lines rest
lines_first text line rest e = ap lines_of_parts e ∙ parts_of_lines line (slice_split (λ b. b == 10) rest) _ (length-slice_split (λ b. b == 10) rest)

-- a first line that is kept
pub line_kept : (n : ℕ) (text line rest : List ℕ) → lines text ≡ line ∷ lines rest → is_kept (trimmed line) ≡ true → lines_from n text ≡ record { number = n; bytes = trimmed line } ∷ lines_from (n + 1) rest
unfolding lines_from
line_kept n text line rest e kept = rw (e, kept) refl

-- a first line that is ignored
pub line_passed : (n : ℕ) (text line rest : List ℕ) → lines text ≡ line ∷ lines rest → is_kept (trimmed line) ≡ false → lines_from n text ≡ lines_from (n + 1) rest
unfolding lines_from
line_passed n text line rest e passed = rw (e, passed) refl

pub lines_end : (n : ℕ) (text : List ℕ) → lines text ≡ [] → lines_from n text ≡ []
unfolding lines_from
lines_end n text e = rw e refl

-- what the function that takes one off wants
pub ruleset line_steps = (line_kept, line_passed, lines_end)
