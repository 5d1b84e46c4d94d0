-- What was dealt from a list and by a dice that counts.
use Rattle.std.proofs.Common.{◌≡◌, ◌≤◌, ◌⊎◌, inl, inr, ℕ, suc, List, [], ◌∷◌, ◌++◌, Result, Ok, Err, Contains, refl, sym, ◌∙◌, ap, subst, arith}
use Rattle.std.proofs.lemmas.List.{append_cancel_left}
use Rattle.mdoc_outside.specs.CountDice.{CountDeals, next_word}
use Rattle.mdoc_outside.specs.Dealt.{dealt, inner}
use Rattle.mdoc_outside.specs.GaveWords.{Deals, words_in, TakesFromTheList, FailsWhereSpent, counted, CountsOn}
use Rattle.mdoc_outside.specs.ListDice.{ListDeals, left, failing, faulted}
use Rattle.mdoc_outside.specs.declared.count_dice.CountDice.{CountDice}
use Rattle.mdoc_outside.specs.declared.dice_fault.DiceFault.{DiceFault}
use Rattle.mdoc_outside.specs.declared.dice_fault.DiceFault.TheVariants.{Failed, Memory}
use Rattle.mdoc_outside.specs.declared.list_dice.ListDice.{ListDice}

taken : (old : ListDice) (answers : List (Result ℕ DiceFault)) (new : ListDice)
    → Deals ListDeals faulted old answers new → left old ≡ words_in answers ++ left new
taken old [] new deals = sym (ap left deals)
taken old (Ok word ∷ answers) new deals =
    deals.1.word ∙ ap (λ words. word ∷ words) (taken deals.0 answers new deals.3)
taken old (Err fault ∷ answers) new deals =
    sym deals.1.kept ∙ taken deals.0 answers new deals.3

pub takes_from_the_list : TakesFromTheList
takes_from_the_list old new gained gave is =
    let same : words_in gave.answers ≡ gained = append_cancel_left (dealt old) (words_in gave.answers) gained (sym gave.joined ∙ is) in
    taken (inner old) gave.answers (inner new) gave.deals ∙ ap (λ words. words ++ left (inner new)) same

-- a list without planned failures that is spent stays so
spent : (old : ListDice) (answers : List (Result ℕ DiceFault)) (new : ListDice)
    → Deals ListDeals faulted old answers new → left old ≡ [] → left new ≡ []
spent old [] new deals is = ap left deals ∙ is
spent old (Ok word ∷ answers) new deals is = absurd (let e : word ∷ left deals.0 ≡ [] = sym deals.1.word ∙ is in cc)
spent old (Err fault ∷ answers) new deals is = spent deals.0 answers new deals.3 (deals.1.kept ∙ is)

none_planned : (n : ℕ) (fails : List ℕ) → fails ≡ [] → Contains fails n → ⊥
none_planned n [] is found = let none : suc found.0 ≤ 0 = found.1 in absurd (omega arith)
none_planned n (x ∷ fails) is found = cc

where_spent : (old : ListDice) (answers : List (Result ℕ DiceFault)) (new : ListDice)
    → Deals ListDeals faulted old answers new → failing old ≡ []
    → (faulted new ≡ faulted old) ⊎ (left new ≡ [])
where_spent old [] new deals none = inl (ap faulted deals)
where_spent old (Ok word ∷ answers) new deals none =
    elim (where_spent deals.0 answers new deals.3 (deals.1.plan ∙ none)) [
      | inl same ↦ inl (same ∙ deals.1.counts.same (λ failed. cc))
      | inr is ↦ inr is
    ]
where_spent old (Err Memory ∷ answers) new deals none = absurd (deals.1.sure refl)
where_spent old (Err Failed ∷ answers) new deals none =
    elim (deals.1.failed.0 refl) [
      | inl planned ↦ absurd (none_planned _ _ none planned)
      | inr is ↦ inr (spent deals.0 answers new deals.3 (deals.1.kept ∙ is))
    ]

pub fails_where_spent : FailsWhereSpent
fails_where_spent old new gave none low rose =
    elim (where_spent (inner old) gave.answers (inner new) gave.deals none) [
      | inl same ↦ absurd (omega arith)
      | inr is ↦ is
    ]

count : (old : CountDice) (answers : List (Result ℕ DiceFault)) (new : CountDice)
    → Deals CountDeals (λ d. 0) old answers new → counted (next_word old) (words_in answers)
count old [] new deals = tt
count old (Ok word ∷ answers) new deals =
    let word_is : word ≡ next_word old = cc (deals.1.word) in
    (word_is, subst (λ n. counted n (words_in answers)) deals.1.next (count deals.0 answers new deals.3))
count old (Err fault ∷ answers) new deals = absurd (let e : Err fault ≡ Ok (next_word old) = deals.1.word in cc)

pub counts_on : CountsOn
counts_on old new gained gave is =
    let same : words_in gave.answers ≡ gained = append_cancel_left (dealt old) (words_in gave.answers) gained (sym gave.joined ∙ is) in
    subst (λ words. counted (next_word (inner old)) words) same (count (inner old) gave.answers (inner new) gave.deals)
