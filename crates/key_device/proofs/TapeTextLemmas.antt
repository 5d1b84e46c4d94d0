-- Texts put one after the other.
use Rattle.std.proofs.Common.{◌≡◌, ℕ, ◌+◌, ◌<◌, List, ◌∷◌, ◌++◌, length, drop, get_or, sym, ◌∙◌, ap, append_assoc, codes, suc, add-one, drop-cons}
use Rattle.key_device.specs.TapeText.{line_text, tape_text}
use Rattle.key_device.specs.declared.exchange.Exchange.{Exchange}

pub three : (o a b c : List ℕ) → ((o ++ a) ++ b) ++ c ≡ o ++ (a ++ b ++ c)
three o a b c = simp append_assoc

pub four : (o a b c d : List ℕ) → (((o ++ a) ++ b) ++ c) ++ d ≡ o ++ (a ++ b ++ c ++ d)
four o a b c d = simp append_assoc

pub line : (o a b c d : List ℕ) → (((o ++ a) ++ b) ++ c) ++ d ≡ o ++ ((a ++ b ++ c) ++ d)
line o a b c d = simp append_assoc

pub six : (o a b c d e f : List ℕ) → (((((o ++ a) ++ b) ++ c) ++ d) ++ e) ++ f ≡ o ++ (a ++ b ++ c ++ d ++ e ++ f)
six o a b c d e f = simp append_assoc

-- one line more was written
pub line_more : (o : List ℕ) (es : List Exchange) (i : ℕ) (e : Exchange) → i < length es → e ≡ get_or es i e
    → (o ++ (line_text e ++ codes "\n")) ++ tape_text (drop (i + 1) es) ≡ o ++ tape_text (drop i es)
line_more o es i e within is =
    let cut : drop i es ≡ e ∷ drop (i + 1) es = rw add-one (drop-cons es i e within ∙ ap (λ (x : Exchange). x ∷ drop (suc i) es) (sym is)) in
    rw cut (append_assoc o (line_text e ++ codes "\n") (tape_text (drop (i + 1) es)))
