-- HMAC with SHA-256 (RFC 2104) as a function on lists of bytes.
use Rattle.std.specs.Prelude.{ℕ, ◌-◌, List, ◌++◌, length, map, replicate, bit_xor, nat_lt, if◌then◌else◌}
use Rattle.sha2.specs.Sha256.{sha256}

-- bytes filled up with zeros to one block of SHA-256, which has 64 (section 2, step 1)
abbrev pub filled : List ℕ → List ℕ
filled bytes = bytes ++ replicate (64 - length bytes) 0

-- the key as a block: one that is longer than a block is hashed first (section 2)
unfoldable pub block_key : List ℕ → List ℕ
block_key key = filled (if nat_lt 64 (length key) then sha256 key else key)

-- each byte of a block XORed with a pad (section 2, steps 2 and 5)
abbrev pub padded : List ℕ → ℕ → List ℕ
padded block pad = map (λ byte. bit_xor byte pad) block

-- the authentication code of a message under a key: ipad is 0x36 and opad is 0x5c (section 2)
unfoldable pub hmac : List ℕ → List ℕ → List ℕ
hmac key message =
    let block = block_key key in
    sha256 (padded block 0x5c ++ sha256 (padded block 0x36 ++ message))
