-- Reading a tape file line by line.
use Rattle.std.proofs.Common.{◌≡◌, ◌==◌, ◌+◌, ◌<◌, ℕ, List, [], ◌∷◌, ◌++◌, true, false, Option, Some, None, Result, Ok, Err, length, refl, sym, ◌∙◌, ap, arith, append-nil}
use Rattle.std.proofs.lemmas.List.Folds.{list_all-append}
use Rattle.std.proofs.lemmas.List.Splits.{length-slice_split}
use Rattle.std.specs.List.{list_all, slice_split}
use Rattle.mdoc_outside.specs.ResultSteps.{◌>>=◌, or_fault}
use Rattle.mdoc_outside.proofs.EachStep.{with_front, regroup}
use Rattle.key_device.specs.Tape.{is_exchange}
use Rattle.key_device.specs.TapeFile.{exchanges_of, tape_parts}
use Rattle.key_device.specs.TapeLine.{line_exchange}
use Rattle.key_device.proofs.TapeAnswers.{words_formed}
use Rattle.key_device.specs.declared.exchange.Exchange.{Exchange}

pub with_front-nil : (read : Result (List Exchange) ℕ) → with_front [] read ≡ read
with_front-nil (Ok rest) = refl
with_front-nil (Err n) = refl

on_lines : (n : ℕ) (front : List Exchange) (line : List ℕ) (lines : List (List ℕ)) (e : Exchange) → 0 < length lines
    → line_exchange line ≡ Some e
    → with_front front (exchanges_of n (line ∷ lines)) ≡ with_front (front ++ e ∷ []) (exchanges_of (n + 1) lines)
unfolding exchanges_of
on_lines n front line [] e some says = absurd (omega arith)
on_lines n front line (next ∷ lines) e some says =
    ap (λ (o : Option Exchange). with_front front (or_fault n o >>= λ first. exchanges_of (n + 1) (next ∷ lines) >>= λ others. Ok (first ∷ others))) says
    ∙ regroup front e (exchanges_of (n + 1) (next ∷ lines))

bad_lines : (n : ℕ) (line : List ℕ) (lines : List (List ℕ)) → 0 < length lines
    → line_exchange line ≡ None → exchanges_of n (line ∷ lines) ≡ Err n
unfolding exchanges_of
bad_lines n line [] some says = absurd (omega arith)
bad_lines n line (next ∷ lines) some says =
    ap (λ (o : Option Exchange). or_fault n o >>= λ first. exchanges_of (n + 1) (next ∷ lines) >>= λ others. Ok (first ∷ others)) says

parts_some : (text : List ℕ) → 0 < length (tape_parts text)
parts_some text = omega (arith, length-slice_split (λ byte. byte == 10) text)

-- one line more was read
pub read_on : (n : ℕ) (front : List Exchange) (text line rest : List ℕ) (e : Exchange)
    → tape_parts text ≡ line ∷ tape_parts rest → Some e ≡ line_exchange line
    → with_front (front ++ e ∷ []) (exchanges_of (n + 1) (tape_parts rest)) ≡ with_front front (exchanges_of n (tape_parts text))
read_on n front text line rest e is says = rw is (sym (on_lines n front line (tape_parts rest) e (parts_some rest) (sym says)))

-- a line that says nothing ends the reading
pub read_bad : (n : ℕ) (front : List Exchange) (text line rest : List ℕ)
    → tape_parts text ≡ line ∷ tape_parts rest → None ≡ line_exchange line
    → with_front front (exchanges_of n (tape_parts text)) ≡ Err n
read_bad n front text line rest is says = rw is (rw (bad_lines n line (tape_parts rest) (parts_some rest) (sym says)) refl)

no_bytes : (bytes : List ℕ) → (length bytes == 0) ≡ true → bytes ≡ []
no_bytes [] empty = refl
no_bytes (byte ∷ bytes) empty = grind arith

-- nothing is left after the last line feed
pub read_end : (n : ℕ) (front : List Exchange) (rest : List ℕ) → (length rest == 0) ≡ true
    → with_front front (exchanges_of n (tape_parts rest)) ≡ Ok front
unfolding exchanges_of
read_end n front rest empty = rw (no_bytes rest empty) (ap Ok (append-nil front))

-- something is left after the last line feed
pub read_rest : (n : ℕ) (front : List Exchange) (rest : List ℕ) → tape_parts rest ≡ rest ∷ [] → false ≡ (length rest == 0)
    → with_front front (exchanges_of n (tape_parts rest)) ≡ Err n
unfolding exchanges_of
read_rest n front [] is some = cc
read_rest n front (byte ∷ rest) is some = rw is refl

pub one_more_formed : (front : List Exchange) (line : List ℕ) (e : Exchange) → Some e ≡ line_exchange line
    → list_all is_exchange front ≡ true → list_all is_exchange (front ++ e ∷ []) ≡ true
one_more_formed front line e says formed =
    let here : is_exchange e ≡ true = (words_formed (slice_split (λ byte. byte == 32) line)).holds e says in
    list_all-append is_exchange front (e ∷ []) ∙ rw (formed, here) refl
