-- What contracts see of a dice that keeps the words that it dealt.
use Rattle.std.specs.Prelude.{◌≡◌, ◌++◌, ◌⊎◌, ℕ, List, [], ◌∷◌, Result, Ok, Err}
use Rattle.mdoc_outside.specs.declared.dealt.Dealt.{Dealt}
use Rattle.mdoc_outside.specs.declared.dice_fault.DiceFault.{DiceFault}
use Rattle.mdoc_outside.specs.declared.dice_fault.DiceFault.TheVariants.{Failed, Memory}

-- the words dealt so far
abbrev pub dealt : {R : Type 0} → Dealt R → List ℕ
dealt dice = dice.words.items

-- the dice that it asks
abbrev pub inner : {R : Type 0} → Dealt R → R
inner dice = dice.dice

-- A call asks the wrapped dice once and answers what that answers: a word is added, a failure adds
-- none. Want of memory adds none, and leaves the wrapped dice as it was or as its own want does.
abbrev pub Keeps : {R : Type 0} → (R → Result ℕ DiceFault → R → Type 0) → Dealt R → Result ℕ DiceFault → Dealt R → Type 0
Keeps gives before (Ok word) after =
    gives (inner before) (Ok word) (inner after) × (dealt after ≡ dealt before ++ word ∷ [])
Keeps gives before (Err Failed) after =
    gives (inner before) (Err Failed) (inner after) × (dealt after ≡ dealt before)
Keeps gives before (Err Memory) after =
    (dealt after ≡ dealt before) × ((inner after ≡ inner before) ⊎ gives (inner before) (Err Memory) (inner after))
