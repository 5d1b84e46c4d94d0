-- The field GF(2^8) of AES, and its S-box (FIPS 197 as updated in 2023, sections 4 and 5.1.1). A
-- byte is the polynomial whose coefficient of x^i is bit i, and sums of polynomials are XORs.
use Rattle.std.specs.Prelude.{ℕ, zero, suc, ◌+◌, ◌-◌, ◌*◌, ◌/◌, ◌%◌, ◌^◌, ◌==◌, nat_lt, if◌then◌else◌, bit_xor}
use Rattle.std.specs.Int.{bit_at, sum_through}

-- x times b, modulo x^8 + x^4 + x^3 + x + 1 (section 4.2)
unfoldable pub xtimes : ℕ → ℕ
xtimes b = if nat_lt b 128 then 2 * b else bit_xor (2 * b - 256) 0x1b

-- the sum of b times x^i over those of the n lowest bits i of a that are 1
abbrev pub sum_of_multiples : ℕ → ℕ → ℕ → ℕ
sum_of_multiples zero a b = 0
sum_of_multiples (suc n) a b =
    bit_xor (if a % 2 == 1 then b else 0) (sum_of_multiples n (a / 2) (xtimes b))

-- the product of two bytes (section 4.2)
unfoldable pub product : ℕ → ℕ → ℕ
product a b = sum_of_multiples 8 a b

-- the byte below n whose product with b is 1, or 0 where there is none
unfoldable pub inverse_below : ℕ → ℕ → ℕ
inverse_below zero b = 0
inverse_below (suc n) b = if product n b == 1 then n else inverse_below n b

-- the multiplicative inverse, or 0 for 0 (section 4.4)
abbrev pub inverse : ℕ → ℕ
inverse b = inverse_below 256 b

-- bit i of the affine map of the S-box (section 5.1.1)
abbrev pub affine_bit : ℕ → ℕ → ℕ
affine_bit b i =
    (bit_at b i + bit_at b ((i + 4) % 8) + bit_at b ((i + 5) % 8) + bit_at b ((i + 6) % 8)
    + bit_at b ((i + 7) % 8) + bit_at 0x63 i) % 2

-- the S-box: the inverse and then the affine map (section 5.1.1)
unfoldable pub sbox : ℕ → ℕ
sbox b = let inverted = inverse b in sum_through (λ i. affine_bit inverted i * 2 ^ i) 7

-- x^n
unfoldable pub power_of_x : ℕ → ℕ
power_of_x zero = 1
power_of_x (suc n) = xtimes (power_of_x n)
