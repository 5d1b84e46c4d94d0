-- HKDF with SHA-256 (RFC 5869) as functions on lists of bytes.
use Rattle.std.specs.Prelude.{ℕ, zero, suc, List, [], ◌∷◌, ◌++◌, take}
use Rattle.std.specs.Int.{div_ceil}
use Rattle.hmac_hkdf.specs.Mac.{hmac}

-- PRK, the pseudorandom key (section 2.2). No salt is the empty salt, whose block of zeros is also
-- that of the string of zeros that the standard puts in its place.
abbrev pub hkdf_extract : List ℕ → List ℕ → List ℕ
hkdf_extract salt ikm = hmac salt ikm

-- T(n) (section 2.3): T(0) is empty, and T(n) is the code of T(n - 1), the info and the byte n
unfoldable pub expansion_block : List ℕ → List ℕ → ℕ → List ℕ
expansion_block prk info zero = []
expansion_block prk info (suc n) = hmac prk (expansion_block prk info n ++ info ++ suc n ∷ [])

-- T(1) to T(n), one after another (section 2.3)
unfoldable pub expansion_blocks : List ℕ → List ℕ → ℕ → List ℕ
expansion_blocks prk info zero = []
expansion_blocks prk info (suc n) = expansion_blocks prk info n ++ expansion_block prk info (suc n)

-- OKM, the first n bytes of T(1) to T(n / 32, rounded up), for n up to 255 * 32 (section 2.3)
unfoldable pub hkdf_expand : List ℕ → List ℕ → ℕ → List ℕ
hkdf_expand prk info n = take n (expansion_blocks prk info (div_ceil n 32))

-- n bytes derived from the input keying material (section 2)
unfoldable pub hkdf : List ℕ → List ℕ → List ℕ → ℕ → List ℕ
hkdf ikm salt info n = hkdf_expand (hkdf_extract salt ikm) info n
