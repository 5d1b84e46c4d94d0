-- The pieces of a message, whatever the bound on their number, where it is large enough.
use Rattle.std.proofs.Common.{◌≡◌, ℕ, zero, suc, ◌<◌, ◌≤◌, if◌then◌else◌, List, [], ◌∷◌, length, take, drop, Bool, true, false, nat_lt, refl, ap, sym, ◌∙◌, arith, length-drop}
use Rattle.std.proofs.lemmas.Bool.{ltb-true, lt-ltb}
use Rattle.ble_fragments.specs.Cut.{Cut, pieces}

same_if : {A : Type 0} (b : Bool) (x y z : A) → (b ≡ true → x ≡ y) → (if b then x else z) ≡ (if b then y else z)
same_if true x y z f = f refl
same_if false x y z f = refl

pub else_if : {A : Type 0} (b : Bool) (x z : A) → (b ≡ true → ⊥) → (if b then x else z) ≡ z
else_if true x z f = absurd (f refl)
else_if false x z f = refl

pub then_if : {A : Type 0} (b : Bool) (x z : A) → b ≡ true → (if b then x else z) ≡ x
then_if true x z e = refl
then_if false x z e = cc

-- a bound that the message doesn't pass is large enough
pub enough : (j k n : ℕ) (m : List ℕ) → 1 ≤ n → length m ≤ j → length m ≤ k → pieces j n m ≡ pieces k n m
enough zero zero n m s h i = refl
enough zero (suc k) n m s h i = sym (else_if (nat_lt n (length m)) _ _ (λ t. omega (arith, ltb-true n (length m) t)))
enough (suc j) zero n m s h i = else_if (nat_lt n (length m)) _ _ (λ t. omega (arith, ltb-true n (length m) t))
enough (suc j) (suc k) n m s h i =
    same_if (nat_lt n (length m)) _ _ _
    (λ t.
    ap (λ (ps : List Cut). record { bytes = take n m; is_last = false } ∷ ps)
    (enough j k n (drop n m) s (omega (arith, ltb-true n (length m) t, length-drop n m)) (omega (arith, ltb-true n (length m) t, length-drop n m))))

-- the first piece of a message that is longer than one
pub first_piece : (n : ℕ) (m : List ℕ) → 1 ≤ n → n < length m → pieces (length m) n m ≡ record { bytes = take n m; is_last = false } ∷ pieces (length (drop n m)) n (drop n m)
first_piece n m s h =
    enough (length m) (suc (length m)) n m s (omega arith) (omega arith)
    ∙ then_if (nat_lt n (length m)) _ _ (lt-ltb n (length m) h)
    ∙ ap (λ (ps : List Cut). record { bytes = take n m; is_last = false } ∷ ps) (enough (length m) (length (drop n m)) n (drop n m) s (omega (arith, length-drop n m)) (omega arith))

-- the one piece of a message that is not longer than one
pub only_piece : (k n : ℕ) (m : List ℕ) → length m ≤ n → pieces k n m ≡ record { bytes = m; is_last = true } ∷ []
only_piece zero n m h = refl
only_piece (suc k) n m h = else_if (nat_lt n (length m)) _ _ (λ t. omega (arith, ltb-true n (length m) t))
