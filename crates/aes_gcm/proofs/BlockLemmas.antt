-- Lemmas on blocks as bytes, as bits and as numbers.
use Rattle.std.proofs.Common.{◌≡◌, ℕ, zero, suc, ◌+◌, ◌-◌, ◌*◌, ◌/◌, ◌%◌, ◌^◌, ◌<◌, ◌≤◌, min, List, [], ◌∷◌, ◌++◌, length, take, drop, replicate, get_or, arith, refl, ap, ap₂, ◌∙◌, sym, add-one, append_assoc, bit_xor, length-append, length-drop, length-take-le, inl, inr}
use Rattle.std.specs.Int.{w64, w128}
use Rattle.std.proofs.lemmas.List.{length-replicate}
use Rattle.std.proofs.lemmas.Bool.{cases_lt}
use Rattle.std.proofs.lemmas.List.{append-nil, drop_all, drop-append-le, drop_at, take-append-le, take_at, take_all}
use Rattle.std.proofs.lemmas.Nat.{mod-pow-add, mod_below, pow-add, pow_pos, shr_split}
use Rattle.std.proofs.lemmas.Nat.Bits.{bit_at_cat_high, bit_at_cat_low}
use Rattle.std.proofs.Math.Nat.{pow-suc}
use Rattle.std.proofs.Math.Seq.{drop-cons}
use Rattle.std.specs.Int.{bit_at, byte_at, bytes_high_first, div_ceil, from_be_bytes, to_be_bytes}
use Rattle.aes_gcm.specs.Bytes.{xored}
use Rattle.aes_gcm.specs.Galois.{bits, bits_of, block_at, bytes_of, ghash, hash_after, number_from, product, zero_block}
use Rattle.aes_gcm.specs.Sealing.{hashed, length_block, whole_blocks}
use Rattle.aes_gcm.proofs.BitsLemmas.{length-bits, bits-zero, bits_xor}

-- the low bits of a number of two parts
bits_low : (i j a b : ℕ) → i ≤ j → bits i (a * 2 ^ j + b) ≡ bits i b
unfolding bits
bits_low zero j a b within = refl
bits_low (suc i) j a b within =
    ap₂ (λ (v : ℕ) (vs : List ℕ). v ∷ vs) (bit_at_cat_low a j b i (omega arith))
    (bits_low i j a b (omega arith))

-- a number of two parts has the bits of both
pub bits-cat : (m j a b : ℕ) → b < 2 ^ j → bits (m + j) (a * 2 ^ j + b) ≡ bits m a ++ bits j b
unfolding bits
bits-cat zero j a b low =
    let none : zero + j ≡ j = omega arith in
    rw none (bits_low j j a b (omega arith))
bits-cat (suc m) j a b low =
    let more : suc m + j ≡ suc (m + j) = omega arith in
    let place : m + j - j ≡ m = omega arith in
    rw more
    (ap₂ (λ (v : ℕ) (vs : List ℕ). v ∷ vs)
    (bit_at_cat_high a j b (m + j) low (omega arith) ∙ ap (bit_at a) place) (bits-cat m j a b low))

-- the number that bytes spell, the highest first, after n
abbrev pub horner : ℕ → List ℕ → ℕ
horner n [] = n
horner n (b ∷ bs) = horner (n * 256 + b) bs

bits-horner : (bs : List ℕ) (m n : ℕ) → ((i : ℕ) → get_or bs i 0 < 256)
    → bits (m + 8 * length bs) (horner n bs) ≡ bits m n ++ bits_of bs
unfolding bits_of
bits-horner [] m n small =
    let none : m + 8 * 0 ≡ m = omega arith in
    rw none (sym (append-nil (bits m n)))
bits-horner (b ∷ bs) m n small =
    let more : m + 8 * suc (length bs) ≡ m + 8 + 8 * length bs = omega arith in
    rw more
    (bits-horner bs (m + 8) (n * 256 + b) (λ i. small (suc i))
    ∙ ap (λ (front : List ℕ). front ++ bits_of bs) (bits-cat m 8 n b (small 0))
    ∙ append_assoc (bits m n) (bits 8 b) (bits_of bs))

-- the elements of a list from place k on, n of them, one by one
abbrev cells_from : ℕ → ℕ → List ℕ → List ℕ
cells_from zero k bs = []
cells_from (suc n) k bs = get_or bs k 0 ∷ cells_from n (suc k) bs

cells_is : (bs : List ℕ) (n k : ℕ) → length bs ≡ k + n → cells_from n k bs ≡ drop k bs
cells_is bs zero k whole = sym (drop_all k bs (omega arith))
cells_is bs (suc n) k whole =
    let within : k < length bs = omega arith in
    rw (drop-cons bs k 0)
    (ap (λ (rest : List ℕ). get_or bs k 0 ∷ rest) (cells_is bs n (suc k) (omega arith)))

from_be_bytes-horner : (bs : List ℕ) → from_be_bytes w128 bs ≡ horner 0 (cells_from 16 0 bs)
from_be_bytes-horner bs = omega arith

-- a block read as a number keeps its bits
pub bits-from_be_bytes : (bs : List ℕ) → length bs ≡ 16 → ((i : ℕ) → get_or bs i 0 < 256)
    → bits 128 (from_be_bytes w128 bs) ≡ bits_of bs
unfolding bits
bits-from_be_bytes bs whole small =
    let size : 0 + 8 * length bs ≡ 128 = omega arith in
    ap (bits 128) (from_be_bytes-horner bs ∙ ap (horner 0) (cells_is bs 16 0 (omega arith)))
    ∙ (rw size at (bits-horner bs 0 0 small))

-- ---- numbers as bytes

pow_of_bytes : (k : ℕ) → 256 ^ k ≡ 2 ^ (8 * k)
pow_of_bytes zero = refl
pow_of_bytes (suc k) =
    let more : 8 * suc k ≡ 8 * k + 8 = omega arith in
    rw (more, pow-add 2 (8 * k) 8, pow-suc 256 k) (ap (λ (p : ℕ). p * 256) (pow_of_bytes k))

byte_at-is : (k n : ℕ) → byte_at k n ≡ n / 2 ^ (8 * k) % 256
byte_at-is zero n = omega arith
byte_at-is (suc k) n = ap (λ (p : ℕ). n / p % 256) (pow_of_bytes (suc k))

-- the bits of a number of k + 8 bits: those of its first byte, and the rest
bits_first_byte : (k n : ℕ) → bits (8 + k) n ≡ bits 8 (n / 2 ^ k % 256) ++ bits k n
bits_first_byte k n =
    let high = n / 2 ^ k in
    let low = n % 2 ^ k in
    let parts : high * 2 ^ k + low ≡ n = shr_split n k in
    let byte : high / 256 * 2 ^ 8 + high % 256 ≡ high = shr_split high 8 in
    let small : low < 2 ^ k = mod_below n (2 ^ k) (pow_pos k) in
    ap (bits (8 + k)) (sym parts) ∙ bits-cat 8 k high low small
    ∙ ap₂ (λ (xs ys : List ℕ). xs ++ ys)
    (ap (bits 8) (sym byte) ∙ bits_low 8 8 (high / 256) (high % 256) (omega arith))
    (sym (bits_low k k high low (omega arith)) ∙ ap (bits k) parts)

pub bits_of-bytes_high_first : (k n : ℕ) → bits_of (bytes_high_first k n) ≡ bits (8 * k) n
unfolding bits_of bits
bits_of-bytes_high_first zero n = refl
bits_of-bytes_high_first (suc k) n =
    let more : 8 * suc k ≡ 8 + 8 * k = omega arith in
    rw more
    (ap₂ (λ (b : ℕ) (rest : List ℕ). bits 8 b ++ rest) (byte_at-is k n)
    (bits_of-bytes_high_first k n)
    ∙ sym (bits_first_byte (8 * k) n))

number_from-bits : (m k b : ℕ) → number_from m (bits k b) ≡ m * 2 ^ k + b % 2 ^ k
unfolding bits
number_from-bits m zero b = omega arith
number_from-bits m (suc k) b =
    let split : b % 2 ^ (1 + k) ≡ (b / 2 ^ k % 2) * 2 ^ k + b % 2 ^ k = mod-pow-add b 1 k in
    let count : 1 + k ≡ suc k = omega arith in
    number_from-bits (2 * m + bit_at b k) k b ∙ rw (← count, split, pow-add) (omega arith)

bytes_of-bytes_high_first : (k n : ℕ)
    → bytes_of k (bits_of (bytes_high_first k n)) ≡ bytes_high_first k n
unfolding bytes_of bits_of
bytes_of-bytes_high_first zero n = refl
bytes_of-bytes_high_first (suc k) n =
    let byte = byte_at k n in
    let rest = bits_of (bytes_high_first k n) in
    let small : 0 * 2 ^ 8 + byte % 2 ^ 8 ≡ byte = omega (arith, byte_at-is k n) in
    ap₂ (λ (b : ℕ) (bs : List ℕ). b ∷ bs)
    (ap (number_from 0) (take_at (bits 8 byte) rest 8 (length-bits 8 byte))
    ∙ number_from-bits 0 8 byte ∙ small)
    (ap (bytes_of k) (drop_at (bits 8 byte) rest 8 (length-bits 8 byte))
    ∙ bytes_of-bytes_high_first k n)

-- a number's bits as bytes are the bytes of the number
pub bytes_of-bits : (n : ℕ) → bytes_of 16 (bits 128 n) ≡ to_be_bytes w128 n
bytes_of-bits n =
    ap (bytes_of 16) (sym (bits_of-bytes_high_first 16 n)) ∙ bytes_of-bytes_high_first 16 n

pub bits_of-append : (xs ys : List ℕ) → bits_of (xs ++ ys) ≡ bits_of xs ++ bits_of ys
unfolding bits_of
bits_of-append [] ys = refl
bits_of-append (x ∷ xs) ys =
    ap (λ (rest : List ℕ). bits 8 x ++ rest) (bits_of-append xs ys)
    ∙ sym (append_assoc (bits 8 x) (bits_of xs) (bits_of ys))

-- the length block, as a number
pub bits-length_block : (n : ℕ) → 8 * n < 2 ^ 64 → bits 128 (8 * n) ≡ bits_of (length_block n)
unfolding length_block
bits-length_block n fits =
    let zeros : 0 * 2 ^ 64 + 8 * n ≡ 8 * n = omega arith in
    ap (bits 128) (sym zeros) ∙ bits-cat 64 64 0 (8 * n) fits
    ∙ ap₂ (λ (xs ys : List ℕ). xs ++ ys)
    (sym (bits_of-bytes_high_first 8 0)) (sym (bits_of-bytes_high_first 8 (8 * n)))
    ∙ sym (bits_of-append (to_be_bytes w64 0) (to_be_bytes w64 (8 * n)))

-- ---- what is hashed of a ciphertext

pub length-whole_blocks : (bytes : List ℕ)
    → length (whole_blocks bytes) ≡ 16 * div_ceil (length bytes) 16
unfolding whole_blocks
length-whole_blocks bytes =
    rw (length-append, length-replicate) (omega arith)

pub length-hashed : (bytes : List ℕ) → length (hashed bytes) / 16 ≡ div_ceil (length bytes) 16 + 1
unfolding hashed length_block
length-hashed bytes = rw (length-append, length-whole_blocks) (omega arith)

-- the last of the blocks is that of the lengths
pub hashed_last : (bytes : List ℕ)
    → take 16 (drop (16 * div_ceil (length bytes) 16) (hashed bytes)) ≡ length_block (length bytes)
unfolding hashed length_block
hashed_last bytes =
    ap (take 16)
    (drop_at (whole_blocks bytes) (length_block (length bytes)) _ (length-whole_blocks bytes))

part_full : (whole rest : List ℕ) (size : ℕ) → 16 ≤ length whole → size ≡ 16
    → take 16 (whole ++ rest) ≡ take size whole ++ replicate (16 - length (take size whole)) 0
part_full whole rest size long is =
    let part : length (take 16 whole) ≡ 16 = length-take-le 16 whole long in
    rw (is, part) (take-append-le 16 whole rest long ∙ sym (append-nil (take 16 whole)))

part_last : (whole zeros rest : List ℕ) (size : ℕ) → size ≡ length whole → size ≤ 16
    → zeros ≡ replicate (16 - size) 0
    → take 16 (whole ++ (zeros ++ rest))
    ≡ take size whole ++ replicate (16 - length (take size whole)) 0
part_last whole zeros rest size is short filling =
    let all : take size whole ≡ whole = take_all size whole (omega arith) in
    let long : length (whole ++ zeros) ≡ 16 =
    rw (filling, length-append, length-replicate) (omega arith) in
    rw (all, ← is, ← filling)
    (ap (take 16) (sym (append_assoc whole zeros rest)) ∙ take_at (whole ++ zeros) rest 16 long)

-- the other blocks are those of the ciphertext, the last of them filled up with zeros
pub hashed_part : (bytes : List ℕ) (i size : ℕ) → 16 * i < length bytes
    → size ≡ min 16 (length bytes - 16 * i)
    → take 16 (drop (16 * i) (hashed bytes))
    ≡ take size (drop (16 * i) bytes) ++ replicate (16 - length (take size (drop (16 * i) bytes))) 0
unfolding hashed whole_blocks
hashed_part bytes i size within is =
    let at = 16 * i in
    let padding = (16 - length bytes % 16) % 16 in
    let rest = length_block (length bytes) in
    let long : length (drop at bytes) ≡ length bytes - at = length-drop at bytes in
    ap (λ (xs : List ℕ). take 16 (drop at xs)) (append_assoc bytes (replicate padding 0) rest)
    ∙ ap (take 16) (drop-append-le at bytes (replicate padding 0 ++ rest) (omega arith))
    ∙ elim (cases_lt (length bytes - at) 16) [
      | inl short ↦
          let count : padding ≡ 16 - size = omega arith in
          part_last (drop at bytes) (replicate padding 0) rest size (omega arith) (omega arith)
          (ap (λ (n : ℕ). replicate n 0) count)
      | inr full ↦
          part_full (drop at bytes) (replicate padding 0 ++ rest) size (omega arith) (omega arith)
    ]

-- ---- the hash, block after block

pub hash_none : (h bytes : List ℕ) → bits 128 0 ≡ hash_after h bytes 0
unfolding hash_after zero_block
hash_none h bytes = bits-zero 128

pub hash_more : (h bytes : List ℕ) (n sum block next : ℕ) → bits 128 sum ≡ hash_after h bytes n
    → bits 128 block ≡ block_at bytes n → bits 128 next ≡ product (bits 128 (bit_xor sum block)) h
    → bits 128 next ≡ hash_after h bytes (n + 1)
unfolding hash_after
hash_more h bytes n sum block next before is step =
    step ∙ ap (λ (x : List ℕ). product x h) (bits_xor 128 sum block ∙ ap₂ xored before is)
    ∙ rw add-one refl

-- the block of the length comes last
pub hash_end : (h bytes : List ℕ) (n sum next : ℕ) → 8 * length bytes < 2 ^ 64
    → n ≡ div_ceil (length bytes) 16 → bits 128 sum ≡ hash_after h (hashed bytes) n
    → bits 128 next ≡ product (bits 128 (bit_xor sum (8 * length bytes))) h
    → bits 128 next ≡ ghash h (hashed bytes)
unfolding ghash block_at
hash_end h bytes n sum next fits count before step =
    let block : bits 128 (8 * length bytes) ≡ block_at (hashed bytes) n =
    rw count (bits-length_block (length bytes) fits ∙ ap bits_of (sym (hashed_last bytes))) in
    hash_more h (hashed bytes) n sum (8 * length bytes) next before block step
    ∙ ap (hash_after h (hashed bytes)) (ap (λ (m : ℕ). m + 1) count ∙ sym (length-hashed bytes))
