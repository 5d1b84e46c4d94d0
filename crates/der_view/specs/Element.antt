-- The elements of DER and the bytes that spell them (X.690, 8.1 and 10.1): a tag of one byte, the length of
-- the body, and the body.
use Rattle.std.specs.Prelude.{◌≡◌, ℕ, ◌/◌, ◌%◌, ◌^◌, ◌<◌, nat_lt, if◌then◌else◌, List, [], ◌∷◌, ◌++◌, length, slice_index}

-- each number of the list is a byte
abbrev pub AreBytes : List ℕ → Type 0
AreBytes bytes = (i : ℕ) → slice_index bytes i < 256

-- A byte whose lowest five bits are not all ones: those say that the number follows it (8.1.2.4).
abbrev pub IsTag : ℕ → Type 0
IsTag tag = (tag < 2 ^ 8) × (tag % 32 < 31)

-- The definite form with the fewest bytes (10.1), of a length below 2 ^ 32: in one byte below 128 (8.1.3.4),
-- else how many bytes follow, with the highest bit set, and these, the highest first (8.1.3.5).
abbrev pub length_bytes : ℕ → List ℕ
length_bytes n = if nat_lt n 0x80 then n ∷ [] else (if nat_lt n (2 ^ 8) then 0x81 ∷ n ∷ [] else (if nat_lt n (2 ^ 16) then 0x82 ∷ (n / 2 ^ 8) ∷ (n % 2 ^ 8) ∷ [] else (if nat_lt n (2 ^ 24) then 0x83 ∷ (n / 2 ^ 16) ∷ (n / 2 ^ 8 % 2 ^ 8) ∷ (n % 2 ^ 8) ∷ [] else 0x84 ∷ (n / 2 ^ 24) ∷ (n / 2 ^ 16 % 2 ^ 8) ∷ (n / 2 ^ 8 % 2 ^ 8) ∷ (n % 2 ^ 8) ∷ [])))

abbrev pub element : ℕ → List ℕ → List ℕ
element tag body = tag ∷ (length_bytes (length body) ++ body)

-- The bytes are the element with that tag and that body.
pub record IsElement (bytes : List ℕ) (tag : ℕ) (body : List ℕ) : Type 0 where
  pub is_tag : IsTag tag
  pub fits : length body < 2 ^ 32
  pub spelled : bytes ≡ element tag body
