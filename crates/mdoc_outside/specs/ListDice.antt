-- What contracts see of a dice that deals a list.
use Rattle.std.specs.Prelude.{◌≡◌, ◌⊎◌, ◌↔◌, ℕ, List, [], ◌∷◌, drop, Contains, Result, IfOk, OnErr, IsErrOf}
use Rattle.mdoc_outside.specs.CallPlan.{planned, call_number, fault_count, IsNextCall}
use Rattle.mdoc_outside.specs.Faults.{CountsOne}
use Rattle.mdoc_outside.specs.declared.dice_fault.DiceFault.{DiceFault}
use Rattle.mdoc_outside.specs.declared.dice_fault.DiceFault.TheVariants.{Failed, Memory}
use Rattle.mdoc_outside.specs.declared.list_dice.ListDice.{ListDice}

-- its words left
abbrev pub left : ListDice → List ℕ
left dice = drop dice.dealt dice.words.items

-- the numbers of its calls that fail, from 0
abbrev pub failing : ListDice → List ℕ
failing dice = planned dice.plan

-- the number of its next call
abbrev pub call : ListDice → ℕ
call dice = call_number dice.plan

-- how many of its calls failed
abbrev pub faulted : ListDice → ℕ
faulted dice = fault_count dice.plan

-- A word is the first one left, and is taken. A call fails exactly where the plan says so or no word
-- is left, and takes none.
pub record ListDeals (before : ListDice) (answer : Result ℕ DiceFault) (after : ListDice) : Type 0 where
  pub failed : IsErrOf answer Failed ↔ (Contains (failing before) (call before) ⊎ (left before ≡ []))
  pub sure : IsErrOf answer Memory → ⊥
  pub word : IfOk answer (λ word. left before ≡ word ∷ left after)
  pub kept : OnErr answer (left after ≡ left before)
  pub plan : failing after ≡ failing before
  pub calls : IsNextCall (call before) (call after)
  pub counts : CountsOne Failed (faulted before) (faulted after) answer
