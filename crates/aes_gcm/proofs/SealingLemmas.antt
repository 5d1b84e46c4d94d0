-- Lemmas on counter blocks, on the keystream, and on what opens.
use Rattle.std.proofs.Common.{◌≡◌, ℕ, zero, suc, ◌+◌, ◌-◌, ◌*◌, ◌%◌, ◌^◌, ◌<◌, ◌≤◌, min, Bool, true, false, cond, List, [], ◌∷◌, ◌++◌, length, take, drop, replicate, ◌≢◌, Some, None, arith, refl, ap, ap₂, ◌∙◌, sym, add-one, append_assoc, length-append, length-drop, length-take-le}
use Rattle.std.proofs.lemmas.List.{append-nil, drop-drop, drop_all, drop_at, drop_min, take_all, take_at, take_min}
use Rattle.std.proofs.lemmas.Slice.Eq.{bytes_eq-Decides}
use Rattle.std.proofs.Math.Seq.{take-add}
use Rattle.std.specs.Str.{bytes_eq}
use Rattle.std.specs.Int.{div_ceil, to_be_bytes, w32}
use borrow.Rule.Slice.PartMut.{put_mid}
use Rattle.aes_gcm.specs.Bytes.{xored}
use Rattle.aes_gcm.specs.Cipher.{add_round_key, aes}
use Rattle.aes_gcm.specs.Galois.{bits_of, bytes_of, ghash}
use Rattle.aes_gcm.specs.Sealing.{counter_block, encrypted, SealedOpens, hashed, keystream, opened, tag_of}
use Rattle.aes_gcm.proofs.BytesLemmas.{length-xored, xored-append, xored_twice}

pub counter_block-is : (iv number : List ℕ) (n : ℕ) → length iv ≡ 12 → n < 2 ^ 32
    → number ≡ to_be_bytes w32 n
    → put_mid 12 4 (iv ++ 0 ∷ 0 ∷ 0 ∷ 0 ∷ []) number ≡ counter_block iv n
unfolding counter_block
counter_block-is iv number n whole fits is =
    let zeros : List ℕ = 0 ∷ 0 ∷ 0 ∷ 0 ∷ [] in
    let small : n ≡ n % 2 ^ 32 = omega arith in
    ap₂ (λ (xs ys : List ℕ). xs ++ (number ++ drop 4 ys)) (take_at iv zeros 12 whole)
    (drop_at iv zeros 12 whole)
    ∙ ap (λ (ys : List ℕ). iv ++ ys) (append-nil number ∙ is ∙ ap (to_be_bytes w32) small)

pub length-aes : (key block : List ℕ) → length (aes key block) ≡ 16
unfolding aes add_round_key
length-aes key block = refl

pub length-keystream : (key iv : List ℕ) (n : ℕ) → length (keystream key iv n) ≡ 16 * n
unfolding keystream
length-keystream key iv zero = refl
length-keystream key iv (suc n) =
    rw (length-append, length-aes) (omega (arith, length-keystream key iv n))

-- a block of the keystream added where there may be less room
put_xored : (text ks stream now : List ℕ) (at size : ℕ) → length ks ≡ at → at < length text
    → size ≡ min 16 (length text - at) → now ≡ xored (take at text) ks ++ drop at text
    → put_mid at size now (xored (take size (drop at now)) stream)
    ≡ xored (take (at + 16) text) (ks ++ stream) ++ drop (at + 16) text
put_xored text ks stream now at size whole within is before =
    let front = xored (take at text) ks in
    let rest = drop at text in
    let taken : length (take at text) ≡ at = length-take-le at text (omega arith) in
    let long : length front ≡ at = length-xored (take at text) ks (omega arith) ∙ taken in
    let room : size ≡ min 16 (length rest) = is ∙ ap (min 16) (sym (length-drop at text)) in
    let first : take at now ≡ front = rw before (take_at front rest at long) in
    let second : drop at now ≡ rest = rw before (drop_at front rest at long) in
    ap₂ (λ (xs ys : List ℕ). xs ++ (xored (take size ys) stream ++ drop size ys)) first second
    ∙ ap₂ (λ (xs ys : List ℕ). front ++ (xored xs stream ++ ys))
    (ap (λ (n : ℕ). take n rest) room ∙ take_min 16 rest)
    (ap (λ (n : ℕ). drop n rest) room ∙ drop_min 16 rest ∙ drop-drop 16 at text)
    ∙ sym (append_assoc front (xored (take 16 rest) stream) (drop (at + 16) text))
    ∙ ap (λ (xs : List ℕ). xs ++ drop (at + 16) text)
    (sym (ap (λ (xs : List ℕ). xored xs (ks ++ stream)) (take-add at 16 text)
    ∙ xored-append (take at text) (take 16 rest) ks stream (taken ∙ sym whole)))

-- the step of a loop that adds block after block of the keystream
pub keystream_more : (key iv text now stream : List ℕ) (i size : ℕ) → 16 * i < length text
    → size ≡ min 16 (length text - 16 * i)
    → now ≡ xored (take (16 * i) text) (keystream key iv i) ++ drop (16 * i) text
    → stream ≡ aes key (counter_block iv (i + 2))
    → put_mid (16 * i) size now (xored (take size (drop (16 * i) now)) stream)
    ≡ xored (take (16 * (i + 1)) text) (keystream key iv (i + 1)) ++ drop (16 * (i + 1)) text
unfolding keystream
keystream_more key iv text now stream i size within is before block =
    let next : 16 * (i + 1) ≡ 16 * i + 16 = omega arith in
    rw (next, add-one, ← block)
    (put_xored text (keystream key iv i) stream now (16 * i) size
    (length-keystream key iv i) within is before)

-- the end of that loop
pub keystream_end : (key iv text now : List ℕ) (i : ℕ) → i ≡ div_ceil (length text) 16
    → now ≡ xored (take (16 * i) text) (keystream key iv i) ++ drop (16 * i) text
    → now ≡ encrypted key iv text
unfolding encrypted
keystream_end key iv text now i all before =
    let past : length text ≤ 16 * i = omega arith in
    before
    ∙ ap₂ (λ (xs ys : List ℕ). xored xs (keystream key iv i) ++ ys) (take_all (16 * i) text past)
    (drop_all (16 * i) text past)
    ∙ append-nil (xored text (keystream key iv i))
    ∙ ap (λ (n : ℕ). xored text (keystream key iv n)) all

-- ---- what opens

test_true : (xs ys : List ℕ) → xs ≡ ys → bytes_eq xs ys ≡ true
test_true xs ys same = (bytes_eq-Decides xs ys).1 same

not_true : (b : Bool) → (b ≡ true → ⊥) → b ≡ false
not_true true not = absurd (not refl)
not_true false not = refl

test_false : (xs ys : List ℕ) → xs ≢ ys → bytes_eq xs ys ≡ false
test_false xs ys other = not_true (bytes_eq xs ys) (λ t. other ((bytes_eq-Decides xs ys).0 t))

-- a ciphertext and a tag after it open where the tag is that of the ciphertext
opened-is : (key iv cipher tag : List ℕ) → length tag ≡ 16
    → opened key iv (cipher ++ tag)
    ≡ cond (bytes_eq tag (tag_of key iv cipher)) (Some (encrypted key iv cipher)) None
unfolding opened
opened-is key iv cipher tag whole =
    let count : length (cipher ++ tag) - 16 ≡ length cipher = rw length-append (omega arith) in
    rw (count, take_at cipher tag (length cipher) refl, drop_at cipher tag (length cipher) refl)
    refl

pub opened-same : (key iv cipher tag : List ℕ) → length tag ≡ 16 → tag ≡ tag_of key iv cipher
    → opened key iv (cipher ++ tag) ≡ Some (encrypted key iv cipher)
opened-same key iv cipher tag whole same =
    opened-is key iv cipher tag whole ∙ rw (test_true tag (tag_of key iv cipher) same) refl

pub opened-other : (key iv cipher tag : List ℕ) → length tag ≡ 16 → tag ≢ tag_of key iv cipher
    → opened key iv (cipher ++ tag) ≡ None
opened-other key iv cipher tag whole other =
    opened-is key iv cipher tag whole ∙ rw (test_false tag (tag_of key iv cipher) other) refl

-- ---- sealing and opening again

pub length-encrypted : (key iv text : List ℕ) → length (encrypted key iv text) ≡ length text
unfolding encrypted
length-encrypted key iv text =
    let blocks = div_ceil (length text) 16 in
    length-xored text (keystream key iv blocks) (omega (arith, length-keystream key iv blocks))

encrypted-encrypted : (key iv text : List ℕ) → encrypted key iv (encrypted key iv text) ≡ text
unfolding encrypted
encrypted-encrypted key iv text =
    let blocks = div_ceil (length text) 16 in
    ap (λ (n : ℕ). xored (encrypted key iv text) (keystream key iv (div_ceil n 16)))
    (length-encrypted key iv text)
    ∙ xored_twice text (keystream key iv blocks) (omega (arith, length-keystream key iv blocks))

length-bytes_of : (n : ℕ) (bs : List ℕ) → length (bytes_of n bs) ≡ n
unfolding bytes_of
length-bytes_of zero bs = refl
length-bytes_of (suc n) bs = ap (λ (m : ℕ). suc m) (length-bytes_of n (drop 8 bs))

pub length-tag_of : (key iv cipher : List ℕ) → length (tag_of key iv cipher) ≡ 16
unfolding tag_of
length-tag_of key iv cipher =
    let hash = ghash (bits_of (aes key (replicate 16 0))) (hashed cipher) in
    let mask = aes key (counter_block iv 1) in
    length-xored (bytes_of 16 hash) mask
    (omega (arith, length-bytes_of 16 hash, length-aes key (counter_block iv 1)))
    ∙ length-bytes_of 16 hash

pub sealed_opens : SealedOpens
sealed_opens key iv text =
    let cipher = encrypted key iv text in
    opened-same key iv cipher (tag_of key iv cipher) (length-tag_of key iv cipher) refl
    ∙ ap (λ (t : List ℕ). Some t) (encrypted-encrypted key iv text)
