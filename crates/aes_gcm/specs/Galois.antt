-- The hash of GCM (NIST SP 800-38D, sections 6.3 and 6.4). A block is a list of 128 bits, the
-- first of them the coefficient of x^0.
use Rattle.std.specs.Prelude.{ℕ, zero, suc, ◌+◌, ◌*◌, ◌/◌, ◌==◌, if◌then◌else◌, List, [], ◌∷◌, ◌++◌, length, take, drop, replicate, slice_index}
use Rattle.std.specs.Int.{bit_at}
use Rattle.aes_gcm.specs.Bytes.{xored}

-- the k lowest bits of n, the highest of them first
unfoldable pub bits : ℕ → ℕ → List ℕ
bits zero n = []
bits (suc k) n = bit_at n k ∷ bits k n

-- the bits of bytes
unfoldable pub bits_of : List ℕ → List ℕ
bits_of [] = []
bits_of (byte ∷ bytes) = bits 8 byte ++ bits_of bytes

-- the number whose bits these are, the highest first, after the bits of n
abbrev pub number_from : ℕ → List ℕ → ℕ
number_from n [] = n
number_from n (bit ∷ rest) = number_from (2 * n + bit) rest

-- the n bytes whose bits these are
unfoldable pub bytes_of : ℕ → List ℕ → List ℕ
bytes_of zero bs = []
bytes_of (suc n) bs = number_from 0 (take 8 bs) ∷ bytes_of n (drop 8 bs)

unfoldable pub zero_block : List ℕ
zero_block = replicate 128 0

-- R, the bits 11100001 and 120 zeros (section 6.3)
unfoldable pub reduction : List ℕ
reduction = 1 ∷ 1 ∷ 1 ∷ 0 ∷ 0 ∷ 0 ∷ 0 ∷ 1 ∷ replicate 120 0

-- a block times x: moved right by one place, and R added where a bit fell out (section 6.3)
unfoldable pub times_x : List ℕ → List ℕ
times_x v =
    let moved = 0 ∷ take 127 v in
    if slice_index v 127 == 1 then xored moved reduction else moved

-- the product of two blocks: the sum of y times x^i over the bits i of the first that are 1
-- (section 6.3)
unfoldable pub product : List ℕ → List ℕ → List ℕ
product [] y = zero_block
product (bit ∷ rest) y =
    if bit == 1 then xored y (product rest (times_x y)) else product rest (times_x y)

-- block i of bytes
unfoldable pub block_at : List ℕ → ℕ → List ℕ
block_at bytes i = bits_of (take 16 (drop (16 * i) bytes))

-- Y_n: each block is added to what came before, and the sum multiplied by H (section 6.4)
unfoldable pub hash_after : List ℕ → List ℕ → ℕ → List ℕ
hash_after h bytes zero = zero_block
hash_after h bytes (suc n) = product (xored (hash_after h bytes n) (block_at bytes n)) h

-- GHASH of bytes that make whole blocks (section 6.4)
unfoldable pub ghash : List ℕ → List ℕ → List ℕ
ghash h bytes = hash_after h bytes (length bytes / 16)
