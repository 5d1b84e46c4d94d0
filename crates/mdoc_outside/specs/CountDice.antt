-- What contracts see of a dice that counts.
use Rattle.std.specs.Prelude.{◌≡◌, ◌+◌, ◌%◌, ◌^◌, ℕ, Result, Ok}
use Rattle.mdoc_outside.specs.declared.count_dice.CountDice.{CountDice}
use Rattle.mdoc_outside.specs.declared.dice_fault.DiceFault.{DiceFault}

-- its next word
abbrev pub next_word : CountDice → ℕ
next_word dice = dice.word

-- a call answers the next word and raises it by one, from the last of 64 bits to 0
pub record CountDeals (before : CountDice) (answer : Result ℕ DiceFault) (after : CountDice) : Type 0 where
  pub word : answer ≡ Ok (next_word before)
  pub next : next_word after ≡ (next_word before + 1) % 2 ^ 64
