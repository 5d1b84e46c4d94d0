-- The text of a moment without its signs, cell by cell.
use Rattle.std.proofs.Common.{◌≡◌, ℕ, refl, arith, List, [], ◌∷◌, length}
use Rattle.std.specs.Prelude.{slice_index_or}
use Rattle.cert_view.specs.Written.{without_signs}

pub unsigned-listed : (text : List ℕ) → length text ≡ 20 → slice_index_or text 0 0 ∷ slice_index_or text 1 0 ∷ slice_index_or text 2 0 ∷ slice_index_or text 3 0 ∷ slice_index_or text 5 0 ∷ slice_index_or text 6 0 ∷ slice_index_or text 8 0 ∷ slice_index_or text 9 0 ∷ slice_index_or text 11 0 ∷ slice_index_or text 12 0 ∷ slice_index_or text 14 0 ∷ slice_index_or text 15 0 ∷ slice_index_or text 17 0 ∷ slice_index_or text 18 0 ∷ slice_index_or text 19 0 ∷ [] ≡ without_signs text
unsigned-listed [] is = absurd (omega (arith, is))
unsigned-listed (y ∷ []) is = absurd (omega (arith, is))
unsigned-listed (y ∷ z ∷ []) is = absurd (omega (arith, is))
unsigned-listed (y ∷ z ∷ c ∷ []) is = absurd (omega (arith, is))
unsigned-listed (y ∷ z ∷ c ∷ d ∷ []) is = absurd (omega (arith, is))
unsigned-listed (y ∷ z ∷ c ∷ d ∷ p ∷ []) is = absurd (omega (arith, is))
unsigned-listed (y ∷ z ∷ c ∷ d ∷ p ∷ m ∷ []) is = absurd (omega (arith, is))
unsigned-listed (y ∷ z ∷ c ∷ d ∷ p ∷ m ∷ n ∷ []) is = absurd (omega (arith, is))
unsigned-listed (y ∷ z ∷ c ∷ d ∷ p ∷ m ∷ n ∷ q ∷ []) is = absurd (omega (arith, is))
unsigned-listed (y ∷ z ∷ c ∷ d ∷ p ∷ m ∷ n ∷ q ∷ e ∷ []) is = absurd (omega (arith, is))
unsigned-listed (y ∷ z ∷ c ∷ d ∷ p ∷ m ∷ n ∷ q ∷ e ∷ f ∷ []) is = absurd (omega (arith, is))
unsigned-listed (y ∷ z ∷ c ∷ d ∷ p ∷ m ∷ n ∷ q ∷ e ∷ f ∷ t ∷ []) is = absurd (omega (arith, is))
unsigned-listed (y ∷ z ∷ c ∷ d ∷ p ∷ m ∷ n ∷ q ∷ e ∷ f ∷ t ∷ h ∷ []) is = absurd (omega (arith, is))
unsigned-listed (y ∷ z ∷ c ∷ d ∷ p ∷ m ∷ n ∷ q ∷ e ∷ f ∷ t ∷ h ∷ i ∷ []) is = absurd (omega (arith, is))
unsigned-listed (y ∷ z ∷ c ∷ d ∷ p ∷ m ∷ n ∷ q ∷ e ∷ f ∷ t ∷ h ∷ i ∷ u ∷ []) is = absurd (omega (arith, is))
unsigned-listed (y ∷ z ∷ c ∷ d ∷ p ∷ m ∷ n ∷ q ∷ e ∷ f ∷ t ∷ h ∷ i ∷ u ∷ k ∷ []) is = absurd (omega (arith, is))
unsigned-listed (y ∷ z ∷ c ∷ d ∷ p ∷ m ∷ n ∷ q ∷ e ∷ f ∷ t ∷ h ∷ i ∷ u ∷ k ∷ l ∷ []) is = absurd (omega (arith, is))
unsigned-listed (y ∷ z ∷ c ∷ d ∷ p ∷ m ∷ n ∷ q ∷ e ∷ f ∷ t ∷ h ∷ i ∷ u ∷ k ∷ l ∷ v ∷ []) is = absurd (omega (arith, is))
unsigned-listed (y ∷ z ∷ c ∷ d ∷ p ∷ m ∷ n ∷ q ∷ e ∷ f ∷ t ∷ h ∷ i ∷ u ∷ k ∷ l ∷ v ∷ r ∷ []) is = absurd (omega (arith, is))
unsigned-listed (y ∷ z ∷ c ∷ d ∷ p ∷ m ∷ n ∷ q ∷ e ∷ f ∷ t ∷ h ∷ i ∷ u ∷ k ∷ l ∷ v ∷ r ∷ s ∷ []) is = absurd (omega (arith, is))
unsigned-listed (y ∷ z ∷ c ∷ d ∷ p ∷ m ∷ n ∷ q ∷ e ∷ f ∷ t ∷ h ∷ i ∷ u ∷ k ∷ l ∷ v ∷ r ∷ s ∷ w ∷ []) is = refl
unsigned-listed (y ∷ z ∷ c ∷ d ∷ p ∷ m ∷ n ∷ q ∷ e ∷ f ∷ t ∷ h ∷ i ∷ u ∷ k ∷ l ∷ v ∷ r ∷ s ∷ w ∷ (x ∷ more)) is = absurd (omega (arith, is))
