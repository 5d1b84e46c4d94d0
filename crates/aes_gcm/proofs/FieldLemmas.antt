-- Products by 2 and by 3 in the field of AES.
use Rattle.std.proofs.Common.{◌≡◌, ℕ, bit_xor, ap}
use Rattle.std.specs.Int.Bits.{xor_zero_r}
use Rattle.aes_gcm.specs.Field.{product, xtimes}

pub product-two : (b : ℕ) → product 2 b ≡ xtimes b
unfolding product
product-two b = xor_zero_r (xtimes b)

pub product-three : (b : ℕ) → product 3 b ≡ bit_xor b (xtimes b)
unfolding product
product-three b = ap (bit_xor b) (xor_zero_r (xtimes b))
