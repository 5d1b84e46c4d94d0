-- The digits of a length as one number of so many bytes.
use Rattle.std.proofs.Common.{◌≡◌, ◌<◌, ◌≤◌, ℕ, ◌==◌, Bool, true, false, if◌then◌else◌, List, [], ◌∷◌, length, take, drop, Result, Ok, Err, refl, arith}
use Rattle.byteorder.specs.Endian.{big_number}
use Rattle.der_view.specs.declared.der_kind.DerKind.{DerKind}
use Rattle.der_view.specs.declared.der_kind.DerKind.TheVariants.{Short}
use Rattle.der_view.specs.Reading.{one_at, two_at, three_at, four_at, digit_count, digits_at}

abbrev At : ℕ → List ℕ → Result (ℕ × List ℕ) DerKind → Type 0
At n bytes read = (n ≤ length bytes → read ≡ Ok (big_number n (take n bytes), drop n bytes)) × (length bytes < n → read ≡ Err Short)

at_one : (bytes : List ℕ) → At 1 bytes (one_at bytes)
at_one [] = (λ h. absurd (omega arith), λ h. refl)
at_one (a ∷ rest) = (λ h. grind arith, λ h. absurd (omega arith))

at_two : (bytes : List ℕ) → At 2 bytes (two_at bytes)
at_two [] = (λ h. absurd (omega arith), λ h. refl)
at_two (a ∷ []) = (λ h. absurd (omega arith), λ h. refl)
at_two (a ∷ (b ∷ rest)) = (λ h. grind arith, λ h. absurd (omega arith))

at_three : (bytes : List ℕ) → At 3 bytes (three_at bytes)
at_three [] = (λ h. absurd (omega arith), λ h. refl)
at_three (a ∷ []) = (λ h. absurd (omega arith), λ h. refl)
at_three (a ∷ (b ∷ [])) = (λ h. absurd (omega arith), λ h. refl)
at_three (a ∷ (b ∷ (c ∷ rest))) = (λ h. grind arith, λ h. absurd (omega arith))

at_four : (bytes : List ℕ) → At 4 bytes (four_at bytes)
at_four [] = (λ h. absurd (omega arith), λ h. refl)
at_four (a ∷ []) = (λ h. absurd (omega arith), λ h. refl)
at_four (a ∷ (b ∷ [])) = (λ h. absurd (omega arith), λ h. refl)
at_four (a ∷ (b ∷ (c ∷ []))) = (λ h. absurd (omega arith), λ h. refl)
at_four (a ∷ (b ∷ (c ∷ (d ∷ rest)))) = (λ h. grind arith, λ h. absurd (omega arith))

abbrev chosen : {A : Type 0} → (one two three : Bool) → A → A → A → A → A
chosen one two three a b c d = if one then a else (if two then b else (if three then c else d))

by_choice : (one two three : Bool) (bytes : List ℕ) → At (chosen one two three 1 2 3 4) bytes (chosen one two three (one_at bytes) (two_at bytes) (three_at bytes) (four_at bytes))
by_choice true two three bytes = at_one bytes
by_choice false true three bytes = at_two bytes
by_choice false false true bytes = at_three bytes
by_choice false false false bytes = at_four bytes

digits-at : (first : ℕ) (bytes : List ℕ) → At (digit_count first) bytes (digits_at first bytes)
digits-at first bytes = by_choice (first == 0x81) (first == 0x82) (first == 0x83) bytes

pub digits_read : (first : ℕ) (bytes : List ℕ) → digit_count first ≤ length bytes → digits_at first bytes ≡ Ok (big_number (digit_count first) (take (digit_count first) bytes), drop (digit_count first) bytes)
digits_read first bytes h = (digits-at first bytes).0 h

pub digits_short : (first : ℕ) (bytes : List ℕ) → length bytes < digit_count first → digits_at first bytes ≡ Err Short
digits_short first bytes h = (digits-at first bytes).1 h

few : (one two three : Bool) → (1 ≤ chosen one two three 1 2 3 4) × (chosen one two three 1 2 3 4 ≤ 4)
few true two three = (omega arith, omega arith)
few false true three = (omega arith, omega arith)
few false false true = (omega arith, omega arith)
few false false false = (omega arith, omega arith)

pub at_least_one : (first : ℕ) → 1 ≤ digit_count first
at_least_one first = (few (first == 0x81) (first == 0x82) (first == 0x83)).0

pub at_most_four : (first : ℕ) → digit_count first ≤ 4
at_most_four first = (few (first == 0x81) (first == 0x82) (first == 0x83)).1
