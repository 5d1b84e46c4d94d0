-- How the calls of a wrapped dice join.
use Rattle.std.proofs.Common.{◌≡◌, ℕ, List, [], ◌∷◌, ◌++◌, Result, Ok, Err, refl, sym, ◌∙◌, ap, subst, append_assoc, append-nil}
use Rattle.mdoc_outside.specs.Dealt.{dealt, inner}
use Rattle.mdoc_outside.specs.Faults.{HasCause}
use Rattle.mdoc_outside.specs.GaveWords.{Deals, words_in, GaveWords}
use Rattle.mdoc_outside.specs.declared.dealt.Dealt.{Dealt}
use Rattle.mdoc_outside.specs.declared.dice_fault.DiceFault.{DiceFault}
use Rattle.mdoc_outside.specs.declared.dice_fault.DiceFault.TheVariants.{Failed, Memory}

deals_both : {R : Type 0} (gives : R → Result ℕ DiceFault → R → Type 0) (faults : R → ℕ) (one two : List (Result ℕ DiceFault)) (old mid new : R)
    → Deals gives faults old one mid → Deals gives faults mid two new → Deals gives faults old (one ++ two) new
deals_both gives faults [] two old mid new first second = subst (λ s. Deals gives faults s two new) first second
deals_both gives faults (answer ∷ one) two old mid new first second =
    (first.0, first.1, first.2, deals_both gives faults one two first.0 mid new first.3 second)

words_both : (one two : List (Result ℕ DiceFault)) → words_in (one ++ two) ≡ words_in one ++ words_in two
words_both [] two = refl
words_both (Ok word ∷ one) two = ap (λ words. word ∷ words) (words_both one two)
words_both (Err fault ∷ one) two = words_both one two

-- What a function that draws words shows of its dice: its calls, and then those of the rest;
pub words_then : {R : Type 0} {gives : R → Result ℕ DiceFault → R → Type 0} {faults : R → ℕ} {old mid new : Dealt R}
    → GaveWords gives faults old mid → GaveWords gives faults mid new → GaveWords gives faults old new
words_then {R} {gives} {faults} {old} {mid} {new} first second = record {
  answers = first.answers ++ second.answers;
  joined = second.joined ∙ ap (λ words. words ++ words_in second.answers) first.joined
      ∙ append_assoc (dealt old) (words_in first.answers) (words_in second.answers)
      ∙ ap (λ words. dealt old ++ words) (sym (words_both first.answers second.answers));
  deals = deals_both gives faults first.answers second.answers (inner old) (inner mid) (inner new) first.deals second.deals;
}

-- none;
pub words_none : {R : Type 0} {gives : R → Result ℕ DiceFault → R → Type 0} {faults : R → ℕ} {old new : Dealt R}
    → dealt new ≡ dealt old → inner new ≡ inner old → GaveWords gives faults old new
words_none {old = old} words same = record { answers = []; joined = words ∙ sym (append-nil (dealt old)); deals = same }

-- one of the dice itself: a word,
pub word_dealt : {R : Type 0} {gives : R → Result ℕ DiceFault → R → Type 0} {faults : R → ℕ} {old new : Dealt R} {word : ℕ}
    → gives (inner old) (Ok word) (inner new) → HasCause Failed Memory (faults (inner old)) (faults (inner new)) (Ok word)
    → dealt new ≡ dealt old ++ word ∷ [] → GaveWords gives faults old new
word_dealt {new = new} {word = word} meets cause added = record { answers = Ok word ∷ []; joined = added; deals = (inner new, meets, cause, refl) }

-- or a fault.
pub none_dealt : {R : Type 0} {gives : R → Result ℕ DiceFault → R → Type 0} {faults : R → ℕ} {old new : Dealt R} {fault : DiceFault}
    → gives (inner old) (Err fault) (inner new) → HasCause {T = ℕ} Failed Memory (faults (inner old)) (faults (inner new)) (Err fault)
    → dealt new ≡ dealt old → GaveWords gives faults old new
none_dealt {old = old} {new = new} {fault = fault} meets cause words =
    record { answers = Err fault ∷ []; joined = words ∙ sym (append-nil (dealt old)); deals = (inner new, meets, cause, refl) }

-- for `using(..)` on a function that draws words
pub ruleset words_exits = (words_then, words_none)

-- for a dice that keeps its words
pub ruleset word_exits = (words_none, word_dealt, none_dealt)
