-- When a message would be too long, in numbers.
use Rattle.std.proofs.Common.{◌≡◌, ℕ, ◌+◌, ◌-◌, ◌<◌, ◌≤◌, ◌∷◌, ◌++◌, [], List, length, Bool, true, false, nat_lt, ◌||◌, min, refl, ap, ◌∙◌, arith, ◌^◌, length-append}
use Rattle.std.proofs.lemmas.Bool.{ltb-true, lt-ltb, le-ltb, ltb-false, ltb_from_iff}
use Rattle.std.proofs.lemmas.List.Folds.{concat-append}
use Rattle.std.proofs.lemmas.List.{append-nil}
use Rattle.std.specs.List.{concat}
use Rattle.ble_fragments.specs.Joins.{Joined, is_over, joined_of}
use Rattle.ble_fragments.specs.Whole.{Whole, is_too_long}

pub over_count : (j : Joined) (piece : List ℕ) → 65536 ≤ j.count → is_over j piece ≡ true
unfolding is_over
over_count j piece h = ap (λ (b : Bool). b || nat_lt 1048576 (length j.bytes + length piece)) (lt-ltb 65536 (j.count + 1) (omega arith))

or_left : (a b : Bool) → (a || b) ≡ false → a ≡ false
or_left true b e = e
or_left false b e = refl

pub over_bytes : (j : Joined) (piece : List ℕ) (sum : ℕ) → j.count < 65536 → sum ≡ min (length j.bytes + length piece) (2 ^ 64 - 1) → nat_lt 1048576 sum ≡ is_over j piece
unfolding is_over
over_bytes j piece sum h e =
    rw (le-ltb 65536 (j.count + 1) (omega arith))
    (ltb_from_iff (λ t. omega (arith, ltb-true 1048576 sum t), λ l. lt-ltb 1048576 sum (omega arith)))

pub below_most : (j : Joined) (piece : List ℕ) → is_over j piece ≡ false → j.count < 65536
unfolding is_over
below_most j piece h = let l = ltb-false 65536 (j.count + 1) (or_left _ _ h) in omega arith

pub too_long_is_over : (w : Whole) (piece : List ℕ) → is_too_long (w.rest ++ piece ∷ []) ≡ is_over (joined_of w) piece
unfolding is_over is_too_long
too_long_is_over w piece =
    let pieces : length (w.rest ++ piece ∷ []) ≡ length w.rest + 1 = length-append w.rest (piece ∷ []) in
    let bytes : length (concat (w.rest ++ piece ∷ [])) ≡ length (concat w.rest) + length piece =
    ap length (concat-append w.rest (piece ∷ [])) ∙ length-append (concat w.rest) (piece ++ []) ∙ ap (λ (x : List ℕ). length (concat w.rest) + length x) (append-nil piece) in
    rw (pieces, bytes) refl
