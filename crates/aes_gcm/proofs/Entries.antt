-- Each entry of a table is equal to its definition: a test over the whole table, and what the test
-- says of one entry.
use Rattle.std.proofs.Common.{◌≡◌, ℕ, zero, suc, ◌+◌, ◌<◌, Bool, true, false, ◌&&◌, List, [], ◌∷◌, length, get_or, arith, refl, eqb, add-zero}
use Rattle.std.proofs.lemmas.Bool.{eqb-true}
use Rattle.aes_gcm.specs.Field.{inverse_below, power_of_x, product, sbox, xtimes}
use Rattle.aes_gcm.specs.declared.tables.TheConstants.{SBOX, POWERS_OF_X}

-- the values of f at k, k + 1 and so on are these
unfoldable pub has_all : (ℕ → ℕ) → ℕ → List ℕ → Bool
has_all f k [] = true
has_all f k (x ∷ xs) = eqb x (f k) && has_all f (suc k) xs

and_parts : (a b : Bool) → (a && b) ≡ true → (a ≡ true) × (b ≡ true)
and_parts true b h = (refl, h)
and_parts false b h = cc

pub at_all : (f : ℕ → ℕ) (k : ℕ) (xs : List ℕ) (i : ℕ) → has_all f k xs ≡ true → i < length xs
    → get_or xs i 0 ≡ f (k + i)
unfolding has_all
at_all f k [] i h lt = absurd (omega arith)
at_all f k (x ∷ xs) zero h lt = rw add-zero (eqb-true x (f k) (and_parts _ _ h).0)
at_all f k (x ∷ xs) (suc i) h lt =
    let e : k + suc i ≡ suc k + i = omega arith in
    rw e (at_all f (suc k) xs i ((and_parts _ _ h).1) (omega arith))

pub sbox_values : has_all sbox 0 SBOX.values ≡ true
unfolding has_all sbox inverse_below product xtimes
sbox_values = refl

pub power_values : has_all power_of_x 0 POWERS_OF_X.values ≡ true
unfolding has_all power_of_x xtimes
power_values = refl
