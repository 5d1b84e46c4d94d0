-- The texts of times with their signs between.
use Rattle.std.proofs.Common.{◌≡◌, ℕ, zero, suc, ◌+◌, ◌-◌, ◌==◌, ◌<◌, refl, ap, arith, Bool, true, false, ◌&&◌, List, [], ◌∷◌, length, None, length-append, length-drop}
use Rattle.std.specs.Prelude.{codes, nat_lt, min, slice_index_or}
use Rattle.std.specs.List.{zip, list_all}
use Rattle.std.specs.Str.{IsUtf8, IsAscii}
use Rattle.std.proofs.lemmas.Bool.{eqb-true}
use Rattle.std.proofs.lemmas.Bool.Decides.{nat_tests}
use Rattle.std.proofs.lemmas.List.{length-take}
use Rattle.std.proofs.lemmas.Str.{IsUtf8-from_ascii}
use Rattle.mdl_table.specs.Form.{stands_for, has_form}
use Rattle.mdl_table.specs.Calendar.{moment_of}
use Rattle.cert_view.specs.Times.{with_signs, generalized_time}

-- ---- a text of the form of a moment is ASCII

stands_ascii : (wanted byte : ℕ) → nat_lt wanted 128 ≡ true → stands_for wanted byte ≡ true → byte < 128
stands_ascii wanted byte low is = grind (arith, nat_tests)

and_parts : (a b : Bool) → (a && b) ≡ true → (a ≡ true) × (b ≡ true)
and_parts true b h = (refl, h)
and_parts false b h = cc

all_ascii : (form text : List ℕ) → list_all (λ b. nat_lt b 128) form ≡ true → length form ≡ length text → list_all (λ both. stands_for both.0 both.1) (zip form text) ≡ true → IsAscii text
all_ascii [] [] low same is i = omega arith
all_ascii [] (b ∷ text) low same is i = absurd (omega (arith, same))
all_ascii (w ∷ form) [] low same is i = omega arith
all_ascii (w ∷ form) (b ∷ text) low same is zero = stands_ascii w b (and_parts _ _ low).0 (and_parts _ _ is).0
all_ascii (w ∷ form) (b ∷ text) low same is (suc i) =
    all_ascii form text (and_parts _ _ low).1 (omega (arith, same)) (and_parts _ _ is).1 i

form_ascii : (text : List ℕ) → has_form (codes "0000-00-00T00:00:00Z") text ≡ true → IsUtf8 text
unfolding has_form
form_ascii text is =
    let parts = and_parts _ _ is in
    IsUtf8-from_ascii text (all_ascii (codes "0000-00-00T00:00:00Z") text refl (eqb-true _ _ parts.0) parts.1)

other_form : (text : List ℕ) → has_form (codes "0000-00-00T00:00:00Z") text ≡ false → moment_of text ≡ None
unfolding moment_of
other_form text other = rw other refl

pub moment-utf8 : (text : List ℕ) → (IsUtf8 text → ⊥) → moment_of text ≡ None
moment-utf8 text bad = go (has_form (codes "0000-00-00T00:00:00Z") text) refl where
  go : (form : Bool) → has_form (codes "0000-00-00T00:00:00Z") text ≡ form → moment_of text ≡ None
  go true is = absurd (bad (form_ascii text is))
  go false is = other_form text is

pub moment-length : (text : List ℕ) → (length text ≡ 20 → ⊥) → moment_of text ≡ None
unfolding moment_of has_form
moment-length text bad =
    let other : (20 == length text) ≡ false = grind (arith, nat_tests) in rw other refl

length-signed : (text : List ℕ) → length (with_signs text) ≡ min 4 (length text) + min 2 (length text - 4) + min 2 (length text - 6) + min 2 (length text - 8) + min 2 (length text - 10) + (length text - 12) + 5
length-signed text = simp (length-append, length-take, length-drop) (omega arith)

length-with_signs : (text : List ℕ) → length (with_signs text) ≡ 20 → length text ≡ 15
length-with_signs text is = omega (arith, is, length-signed text)

pub time-length : (text : List ℕ) → (length text ≡ 15 → ⊥) → generalized_time text ≡ None
unfolding generalized_time
time-length text bad = moment-length (with_signs text) (λ is. bad (length-with_signs text is))

-- the signs between the thirteen bytes after the first two
pub signs-listed : (a b : ℕ) (text : List ℕ) → length text ≡ 13 → a ∷ b ∷ slice_index_or text 0 0 ∷ slice_index_or text 1 0 ∷ 45 ∷ slice_index_or text 2 0 ∷ slice_index_or text 3 0 ∷ 45 ∷ slice_index_or text 4 0 ∷ slice_index_or text 5 0 ∷ 84 ∷ slice_index_or text 6 0 ∷ slice_index_or text 7 0 ∷ 58 ∷ slice_index_or text 8 0 ∷ slice_index_or text 9 0 ∷ 58 ∷ slice_index_or text 10 0 ∷ slice_index_or text 11 0 ∷ slice_index_or text 12 0 ∷ [] ≡ with_signs (a ∷ b ∷ text)
signs-listed a b [] is = absurd (omega (arith, is))
signs-listed a b (y ∷ []) is = absurd (omega (arith, is))
signs-listed a b (y ∷ z ∷ []) is = absurd (omega (arith, is))
signs-listed a b (y ∷ z ∷ m ∷ []) is = absurd (omega (arith, is))
signs-listed a b (y ∷ z ∷ m ∷ n ∷ []) is = absurd (omega (arith, is))
signs-listed a b (y ∷ z ∷ m ∷ n ∷ d ∷ []) is = absurd (omega (arith, is))
signs-listed a b (y ∷ z ∷ m ∷ n ∷ d ∷ e ∷ []) is = absurd (omega (arith, is))
signs-listed a b (y ∷ z ∷ m ∷ n ∷ d ∷ e ∷ h ∷ []) is = absurd (omega (arith, is))
signs-listed a b (y ∷ z ∷ m ∷ n ∷ d ∷ e ∷ h ∷ i ∷ []) is = absurd (omega (arith, is))
signs-listed a b (y ∷ z ∷ m ∷ n ∷ d ∷ e ∷ h ∷ i ∷ q ∷ []) is = absurd (omega (arith, is))
signs-listed a b (y ∷ z ∷ m ∷ n ∷ d ∷ e ∷ h ∷ i ∷ q ∷ r ∷ []) is = absurd (omega (arith, is))
signs-listed a b (y ∷ z ∷ m ∷ n ∷ d ∷ e ∷ h ∷ i ∷ q ∷ r ∷ s ∷ []) is = absurd (omega (arith, is))
signs-listed a b (y ∷ z ∷ m ∷ n ∷ d ∷ e ∷ h ∷ i ∷ q ∷ r ∷ s ∷ t ∷ []) is = absurd (omega (arith, is))
signs-listed a b (y ∷ z ∷ m ∷ n ∷ d ∷ e ∷ h ∷ i ∷ q ∷ r ∷ s ∷ t ∷ u ∷ []) is = refl
signs-listed a b (y ∷ z ∷ m ∷ n ∷ d ∷ e ∷ h ∷ i ∷ q ∷ r ∷ s ∷ t ∷ u ∷ (v ∷ more)) is = absurd (omega (arith, is))

-- a text that is not written as it should be says no moment
pub said-time : (text : List ℕ) (signed : List ℕ) → signed ≡ with_signs text → moment_of signed ≡ generalized_time text
unfolding generalized_time
said-time text signed is = ap moment_of is
