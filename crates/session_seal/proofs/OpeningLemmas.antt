-- Bytes that are shorter than a tag don't open.
use Rattle.std.proofs.Common.{◌≡◌, ℕ, ◌-◌, ◌<◌, Bool, true, false, List, length, take, drop, None, refl, ap, arith, length-drop}
use Rattle.std.proofs.lemmas.Slice.Eq.{bytes_eq-Decides}
use Rattle.std.specs.Str.{bytes_eq}
use Rattle.aes_gcm.specs.Sealing.{opened, tag_of}
use Rattle.aes_gcm.proofs.SealingLemmas.{length-tag_of}

not_true : (b : Bool) → (b ≡ true → ⊥) → b ≡ false
not_true true not = absurd (not refl)
not_true false not = refl

too_short : (key iv bytes cipher : List ℕ) → length bytes < 16 → bytes_eq (drop (length bytes - 16) bytes) (tag_of key iv cipher) ≡ false
too_short key iv bytes cipher short =
    let tag = drop (length bytes - 16) bytes in
    not_true (bytes_eq tag (tag_of key iv cipher)) (λ same.
    let equal : tag ≡ tag_of key iv cipher = (bytes_eq-Decides tag (tag_of key iv cipher)).0 same in
    let lengths : length tag ≡ length (tag_of key iv cipher) = ap (λ (x : List ℕ). length x) equal in
    omega (arith, lengths, length-drop (length bytes - 16) bytes, length-tag_of key iv cipher))

pub opened_short : (key iv bytes : List ℕ) → length bytes < 16 → opened key iv bytes ≡ None
unfolding opened
opened_short key iv bytes short = rw (too_short key iv bytes (take (length bytes - 16) bytes) short) refl
