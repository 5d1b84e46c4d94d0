-- A tape file: a line for each exchange, and a line feed after each line.
use Rattle.std.specs.Prelude.{◌≡◌, ℕ, ◌+◌, ◌==◌, List, [], ◌∷◌, Result, Ok, Err}
use Rattle.std.specs.List.{slice_split}
use Rattle.mdoc_outside.specs.ResultSteps.{◌>>=◌, or_fault}
use Rattle.key_device.specs.TapeLine.{line_exchange}
use Rattle.key_device.specs.declared.exchange.Exchange.{Exchange}
use Rattle.key_device.specs.declared.tape_fault.TapeFault.{TapeFault}
use Rattle.key_device.specs.declared.tape_fault.TapeFault.TheVariants.{Line, Memory}

-- what stands after the last line feed: nothing, else it is a bad line of that number
abbrev pub tape_end : ℕ → List ℕ → Result (List Exchange) ℕ
tape_end n [] = Ok []
tape_end n bytes = Err n

-- The exchanges of lines that are numbered from n on and each end with a line feed, with what
-- stands after the last one; else the number of the first line that says no exchange.
unfoldable pub exchanges_of : ℕ → List (List ℕ) → Result (List Exchange) ℕ
exchanges_of n [] = Ok []
exchanges_of n (rest ∷ []) = tape_end n rest
exchanges_of n (line ∷ lines) = do
  first ← or_fault n (line_exchange line)
  others ← exchanges_of (n + 1) lines
  Ok (first ∷ others)

abbrev pub tape_parts : List ℕ → List (List ℕ)
tape_parts text = slice_split (λ byte. byte == 10) text

-- the exchanges of a tape file, else the number of its first line outside the grammar, from 1
abbrev pub tape_of : List ℕ → Result (List Exchange) ℕ
tape_of text = exchanges_of 1 (tape_parts text)

-- Why a tape file was not read: exactly the first line outside the grammar; want of memory says
-- nothing.
abbrev pub Refuses : Result (List Exchange) ℕ → TapeFault → Type 0
Refuses read (Line n) = read ≡ Err n
Refuses read Memory = Unit {0}
