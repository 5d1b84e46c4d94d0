-- The tape file that is written for exchanges is read as these.
use Rattle.std.proofs.Common.{◌≡◌, ◌==◌, ◌+◌, ◌++◌, ℕ, zero, suc, drop, Bool, List, [], ◌∷◌, true, false, not, Ok, All, codes, refl, sym, ◌∙◌, ap, append_assoc, arith}
use Rattle.std.proofs.lemmas.List.Elements.{All-head, All-tail, All-append}
use Rattle.std.proofs.lemmas.List.Splits.{slice_split_at}
use Rattle.std.proofs.lemmas.List.Sums.{AllPass-from_list_all}
use Rattle.key_device.proofs.SameAsk.{ask_itself}
use Rattle.key_device.proofs.TapeFileLemmas.{with_front-nil, read_on}
use Rattle.mdoc_outside.proofs.EachStep.{with_front}
use Rattle.key_device.proofs.WrittenLines.{is_in_line, line_read, line_whole}
use Rattle.key_device.specs.TapeFile.{exchanges_of, tape_parts}
use Rattle.key_device.specs.TapeText.{line_text, tape_text}
use Rattle.key_device.specs.HasLine.{HasLine}
use Rattle.key_device.specs.WrittenTape.{IsReadAsWritten, AnswersAsTold}
use Rattle.key_device.specs.declared.exchange.Exchange.{Exchange}
use Rattle.key_device.specs.declared.told.Told.{Told}

not_feed : (b : Bool) → not b ≡ true → b ≡ false
not_feed true is = cc
not_feed false is = refl

parts_of : (e : Exchange) (es : List Exchange) → HasLine e → tape_parts (tape_text (e ∷ es)) ≡ line_text e ∷ tape_parts (tape_text es)
parts_of e es line =
    ap tape_parts (append_assoc (line_text e) (codes "\n") (tape_text es))
    ∙ slice_split_at (λ b. b == 10) (line_text e) 10 (tape_text es)
    (λ k d within. not_feed _ (AllPass-from_list_all is_in_line (line_text e) (line_whole e line) k d within)) refl

tape_read : (n : ℕ) (es : List Exchange) → All HasLine es → exchanges_of n (tape_parts (tape_text es)) ≡ Ok es
unfolding exchanges_of
tape_read n [] lines = refl
tape_read n (e ∷ es) lines =
    let line : HasLine e = All-head HasLine e es lines in
    let rest = tape_read (n + 1) es (All-tail HasLine e es lines) in
    sym (with_front-nil (exchanges_of n (tape_parts (tape_text (e ∷ es)))))
    ∙ sym (read_on n [] (tape_text (e ∷ es)) (line_text e) (tape_text es) e (parts_of e es line) (sym (line_read e line)))
    ∙ ap (with_front (e ∷ [])) rest

pub is_read_as_written : IsReadAsWritten
is_read_as_written es lines = tape_read 1 es lines

-- one more line
pub one_more_line : (es : List Exchange) (e : Exchange) → All HasLine es → HasLine e → All HasLine (es ++ e ∷ [])
one_more_line es e lines line = All-append HasLine es (e ∷ []) lines (all_one e line)
  where
    all_one : (d : Exchange) → HasLine d → All HasLine (d ∷ [])
    all_one d one zero other within = one
    all_one d one (suc k) other within = absurd (omega arith)

pub lines_after : (n : ℕ) (es : List Exchange) → All HasLine es → All HasLine (drop n es)
lines_after zero es all = all
lines_after (suc n) [] all = all
lines_after (suc n) (e ∷ es) all = lines_after n es (All-tail HasLine e es all)

-- and answers by what was told
pub answers_as_told : AnswersAsTold
answers_as_told [] tape = refl
answers_as_told (e ∷ es) tape =
    rw (ask_itself e.ask) (ap (λ (told : List Told). e.told ∷ told) (answers_as_told es tape))
