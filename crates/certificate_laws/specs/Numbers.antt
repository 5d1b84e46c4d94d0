-- Numbers by the body of an INTEGER (X.690, 8.3): in two's complement, the highest byte first.
use Rattle.std.specs.Prelude.{◌≡◌, ℕ, ◌<◌, ◌≤◌, List, [], ◌∷◌, length}
use Rattle.der_view.specs.Element.{AreBytes}
use Rattle.cert_view.specs.Integers.{worth}

-- The number is not negative, so the first bit is 0; it has the fewest bytes, so the first nine bits are not all 0
-- (8.3.2).
abbrev pub IsShortest : List ℕ → Type 0
IsShortest [] = ⊥
IsShortest (b ∷ []) = b < 0x80
IsShortest (b ∷ (c ∷ bytes)) = (b < 0x80) × (b ≡ 0 → 0x80 ≤ c)

-- The 32 bytes give the number of the body.
pub record IsNumber (body bytes : List ℕ) : Type 0 where
  pub shortest : IsShortest body
  pub size : length bytes ≡ 32
  pub are : AreBytes bytes
  pub same : worth bytes ≡ worth body
