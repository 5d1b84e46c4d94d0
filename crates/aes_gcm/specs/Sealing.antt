-- GCM with an IV of 96 bits, a tag of 128 bits and no additional data (NIST SP 800-38D,
-- sections 6.5 and 7) on lists of bytes.
use Rattle.std.specs.Prelude.{◌≡◌, ℕ, zero, suc, ◌+◌, ◌-◌, ◌*◌, ◌%◌, ◌^◌, if◌then◌else◌, Option, Some, None, List, [], ◌++◌, length, take, drop, replicate}
use Rattle.std.specs.Int.{w32, w64, div_ceil, to_be_bytes}
use Rattle.std.specs.Str.{bytes_eq}
use Rattle.aes_gcm.specs.Bytes.{xored}
use Rattle.aes_gcm.specs.Cipher.{aes}
use Rattle.aes_gcm.specs.Galois.{bits_of, bytes_of, ghash}

-- the counter block with number n, modulo 2^32 (sections 6.2 and 7.1): J0 has number 1
unfoldable pub counter_block : List ℕ → ℕ → List ℕ
counter_block iv n = iv ++ to_be_bytes w32 (n % 2 ^ 32)

-- the first n blocks that GCTR adds to a text: the first counter is the one after J0
-- (sections 6.5 and 7.1)
unfoldable pub keystream : List ℕ → List ℕ → ℕ → List ℕ
keystream key iv zero = []
keystream key iv (suc n) = keystream key iv n ++ aes key (counter_block iv (n + 2))

-- a text with the keystream added, which turns text to ciphertext and back (section 6.5)
unfoldable pub encrypted : List ℕ → List ℕ → List ℕ → List ℕ
encrypted key iv text = xored text (keystream key iv (div_ceil (length text) 16))

-- bytes, and zeros up to a whole block
unfoldable pub whole_blocks : List ℕ → List ℕ
whole_blocks bytes = bytes ++ replicate ((16 - length bytes % 16) % 16) 0

-- the lengths in bits of the additional data, which is empty, and of a ciphertext of n bytes
unfoldable pub length_block : ℕ → List ℕ
length_block n = to_be_bytes w64 0 ++ to_be_bytes w64 (8 * n)

-- what is hashed of a ciphertext (section 7.1, step 5)
unfoldable pub hashed : List ℕ → List ℕ
hashed cipher = whole_blocks cipher ++ length_block (length cipher)

-- the tag of a ciphertext (section 7.1)
unfoldable pub tag_of : List ℕ → List ℕ → List ℕ → List ℕ
tag_of key iv cipher =
    let h = bits_of (aes key (replicate 16 0)) in
    xored (bytes_of 16 (ghash h (hashed cipher))) (aes key (counter_block iv 1))

-- the ciphertext of a text, and its tag (section 7.1)
abbrev pub sealed : List ℕ → List ℕ → List ℕ → List ℕ × List ℕ
sealed key iv text = let cipher = encrypted key iv text in (cipher, tag_of key iv cipher)

-- the text that bytes open to: there is one exactly where the last 16 bytes are the tag of the rest
-- (section 7.2)
unfoldable pub opened : List ℕ → List ℕ → List ℕ → Option (List ℕ)
opened key iv bytes =
    let cipher = take (length bytes - 16) bytes in
    if bytes_eq (drop (length bytes - 16) bytes) (tag_of key iv cipher)
    then Some (encrypted key iv cipher) else None

-- opening what was sealed gives the text
abbrev pub SealedOpens : Type 0
SealedOpens =
    (key iv text : List ℕ)
    → opened key iv ((sealed key iv text).0 ++ (sealed key iv text).1) ≡ Some text
