-- That the words of a dice were dealt by the dice that it wraps.
use Rattle.std.specs.Prelude.{◌≡◌, ◌<◌, ◌-◌, ◌^◌, ◌+◌, ◌%◌, ◌++◌, ℕ, List, [], ◌∷◌, Result, Ok, Err}
use Rattle.mdoc_outside.specs.CountDice.{CountDeals, next_word}
use Rattle.mdoc_outside.specs.Dealt.{dealt, inner}
use Rattle.mdoc_outside.specs.Faults.{HasCause, Rose}
use Rattle.mdoc_outside.specs.ListDice.{ListDeals, left, failing, faulted}
use Rattle.mdoc_outside.specs.declared.count_dice.CountDice.{CountDice}
use Rattle.mdoc_outside.specs.declared.dealt.Dealt.{Dealt}
use Rattle.mdoc_outside.specs.declared.dice_fault.DiceFault.{DiceFault}
use Rattle.mdoc_outside.specs.declared.dice_fault.DiceFault.TheVariants.{Failed, Memory}
use Rattle.mdoc_outside.specs.declared.list_dice.ListDice.{ListDice}

-- a dice goes from one state to another by these answers, in order
abbrev pub Deals : {R : Type 0} → (R → Result ℕ DiceFault → R → Type 0) → (R → ℕ) → R → List (Result ℕ DiceFault) → R → Type 0
Deals gives faults before [] after = after ≡ before
Deals {R} gives faults before (answer ∷ answers) after =
    (mid : R) × gives before answer mid × HasCause Failed Memory (faults before) (faults mid) answer
    × Deals gives faults mid answers after

-- the words among answers
abbrev pub words_in : List (Result ℕ DiceFault) → List ℕ
words_in [] = []
words_in (Ok word ∷ answers) = word ∷ words_in answers
words_in (Err fault ∷ answers) = words_in answers

-- The words gained are those that the wrapped dice dealt, from its state before to its state after.
pub record GaveWords {R : Type 0} (gives : R → Result ℕ DiceFault → R → Type 0) (faults : R → ℕ) (old new : Dealt R) : Type 0 where
  pub answers : List (Result ℕ DiceFault)
  pub joined : dealt new ≡ dealt old ++ words_in answers
  pub deals : Deals gives faults (inner old) answers (inner new)

-- A law: the words gained of a list are its first ones, and what is left is the rest.
abbrev pub TakesFromTheList : Type 0
TakesFromTheList =
    (old new : Dealt ListDice) (gained : List ℕ)
    → GaveWords ListDeals faulted old new → dealt new ≡ dealt old ++ gained
    → left (inner old) ≡ gained ++ left (inner new)

-- A law: a list of which no call is planned to fail has failed only where no word is left.
abbrev pub FailsWhereSpent : Type 0
FailsWhereSpent =
    (old new : Dealt ListDice)
    → GaveWords ListDeals faulted old new → failing (inner old) ≡ []
    → faulted (inner old) < 2 ^ 64 - 1 → Rose (faulted (inner old)) (faulted (inner new))
    → left (inner new) ≡ []

-- so many words from this one on, each one more than the one before, from the last of 64 bits to 0
abbrev pub counted : ℕ → List ℕ → Type 0
counted first [] = Unit {0}
counted first (word ∷ words) = (word ≡ first) × counted ((first + 1) % 2 ^ 64) words

-- A law: the words gained of a dice that counts are those from its next word on.
abbrev pub CountsOn : Type 0
CountsOn =
    (old new : Dealt CountDice) (gained : List ℕ)
    → GaveWords CountDeals (λ d. 0) old new → dealt new ≡ dealt old ++ gained
    → counted (next_word (inner old)) gained
