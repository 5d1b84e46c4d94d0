-- Numbers that ascend are distinct.
use Rattle.std.proofs.Common.{◌≡◌, ℕ, ◌<◌, ◌≤◌, ◌==◌, ◌&&◌, ◌||◌, not, Bool, true, false, List, [], ◌∷◌, Option, Some, None, refl, arith, ltb-true, ne_eqb}
use Rattle.std.specs.Prelude.{nat_lt}
use Rattle.cbor_view.specs.Parts.{Part, uint_in}
use Rattle.mso_digests.specs.Digests.{has_uint, is_uint, are_uints_distinct}
use Rattle.mso_digests.specs.Nested.{is_after, are_ascending}

and_parts : (a b : Bool) → (a && b) ≡ true → (a ≡ true) × (b ≡ true)
and_parts true b h = (refl, h)
and_parts false b h = absurd (cc)

-- what isn't more than the last number isn't among those after it
above : (k last : ℕ) (es : List (Part × Part)) → are_ascending (Some last) es ≡ true → k ≤ last → has_uint (Some k) es ≡ false
above k last [] e le = refl
above k last (x ∷ xs) e le = go (λ n rest more. above k n xs rest more) (uint_in x.0) e where
  go : ((n : ℕ) → are_ascending (Some n) xs ≡ true → k ≤ n → has_uint (Some k) xs ≡ false) → (o : Option ℕ) → (is_after o (Some last) && are_ascending o xs) ≡ true → (is_uint k o || has_uint (Some k) xs) ≡ false
  go later None e = absurd (cc)
  go later (Some n) e =
      let parts = and_parts (nat_lt last n) (are_ascending (Some n) xs) e in
      let more : last < n = ltb-true last n parts.0 in
      let differs : (n == k) ≡ false = ne_eqb n k (λ (same : n ≡ k). absurd (omega (arith, same))) in
      rw differs (later n parts.1 (omega arith))

pub ascending_distinct : (last : Option ℕ) (es : List (Part × Part)) → are_ascending last es ≡ true → are_uints_distinct es ≡ true
ascending_distinct last [] e = refl
ascending_distinct last (x ∷ xs) e = go (λ o rest. ascending_distinct o xs rest) (uint_in x.0) e where
  go : ((o : Option ℕ) → are_ascending o xs ≡ true → are_uints_distinct xs ≡ true) → (o : Option ℕ) → (is_after o last && are_ascending o xs) ≡ true → (not (has_uint o xs) && are_uints_distinct xs) ≡ true
  go later None e = absurd (cc)
  go later (Some n) e =
      let parts = and_parts (is_after (Some n) last) (are_ascending (Some n) xs) e in
      rw (above n n xs parts.1 (omega arith)) (later (Some n) parts.1)
