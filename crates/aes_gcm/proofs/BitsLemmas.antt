-- Lemmas on the bits of numbers and on the products of blocks.
use Rattle.std.proofs.Common.{◌≡◌, ℕ, zero, suc, ◌+◌, ◌/◌, ◌%◌, ◌^◌, ◌<◌, ◌==◌, ◌≢◌, Bool, true, false, cond, if◌then◌else◌, List, [], ◌∷◌, length, take, replicate, get_or, arith, refl, ap, ap₂, ◌∙◌, sym, bit_xor, length-take}
use Rattle.std.proofs.lemmas.Nat.Bits.{bit_at-suc, bit_at-lt, bit_at-zero, bit_at_above, bit_at_lowest, bit_at_xor}
use Rattle.std.specs.Int.{bit_at}
use Rattle.aes_gcm.specs.Bytes.{xored}
use Rattle.aes_gcm.specs.Galois.{bits, product, reduction, times_x, zero_block}
use Rattle.aes_gcm.specs.declared.galois.TheConstants.{REDUCTION}
use Rattle.aes_gcm.proofs.BytesLemmas.{length-xored, xored_assoc, xored_zeros, zeros_xored}

pub length-bits : (k n : ℕ) → length (bits k n) ≡ k
unfolding bits
length-bits zero n = refl
length-bits (suc k) n = ap (λ (m : ℕ). suc m) (length-bits k n)

xor_of_bits : (x y : ℕ) → x < 2 → y < 2 → (x + y) % 2 ≡ bit_xor x y
xor_of_bits zero zero small low = refl
xor_of_bits zero (suc zero) small low = refl
xor_of_bits zero (suc (suc y)) small low = absurd (omega arith)
xor_of_bits (suc zero) zero small low = refl
xor_of_bits (suc zero) (suc zero) small low = refl
xor_of_bits (suc zero) (suc (suc y)) small low = absurd (omega arith)
xor_of_bits (suc (suc x)) y small low = absurd (omega arith)

pub bits_xor : (k a b : ℕ) → bits k (bit_xor a b) ≡ xored (bits k a) (bits k b)
unfolding bits
bits_xor zero a b = refl
bits_xor (suc k) a b =
    ap₂ (λ (v : ℕ) (vs : List ℕ). v ∷ vs)
    (bit_at_xor a b k ∙ xor_of_bits (bit_at a k) (bit_at b k) (bit_at-lt a k) (bit_at-lt b k))
    (bits_xor k a b)

pub bits-zero : (k : ℕ) → bits k 0 ≡ replicate k 0
unfolding bits
bits-zero zero = refl
bits-zero (suc k) = ap₂ (λ (v : ℕ) (vs : List ℕ). v ∷ vs) (bit_at-zero k) (bits-zero k)

-- half a number has its bits but the lowest
pub bits_half : (k n : ℕ) → bits k (n / 2) ≡ take k (bits (suc k) n)
unfolding bits
bits_half zero n = refl
bits_half (suc k) n =
    ap₂ (λ (v : ℕ) (vs : List ℕ). v ∷ vs) (sym (bit_at-suc n k)) (bits_half k n)

pub lowest_bit : (k n : ℕ) → get_or (bits (suc k) n) k 0 ≡ n % 2
unfolding bits
lowest_bit zero n = bit_at_lowest n
lowest_bit (suc k) n = lowest_bit k n

bits-reduction : bits 128 REDUCTION ≡ reduction
unfolding bits reduction
bits-reduction = refl

length-reduction : length reduction ≡ 128
unfolding reduction
length-reduction = refl

-- a number moved right by one place
bits_moved : (v : ℕ) → v < 2 ^ 128 → bits 128 (v / 2) ≡ 0 ∷ take 127 (bits 128 v)
unfolding bits
bits_moved v fits =
    ap₂ (λ (b : ℕ) (bs : List ℕ). b ∷ bs) (bit_at_above (v / 2) 127 127 (omega arith) (omega arith))
    (bits_half 127 v)

cond_length : (b : Bool) (xs ys : List ℕ) → length xs ≡ 128 → length ys ≡ 128
    → length (cond b xs ys) ≡ 128
cond_length true xs ys then_length else_length = then_length
cond_length false xs ys then_length else_length = else_length

chosen : (b : Bool) (sum multiple rest : List ℕ)
    → xored (cond b (xored sum multiple) sum) rest ≡ xored sum (cond b (xored multiple rest) rest)
chosen true sum multiple rest = xored_assoc sum multiple rest
chosen false sum multiple rest = refl

pub times_x-odd : (v : ℕ) → v < 2 ^ 128 → v % 2 ≡ 1
    → bits 128 (bit_xor (v / 2) REDUCTION) ≡ times_x (bits 128 v)
unfolding times_x
times_x-odd v fits odd =
    let lowest : get_or (bits 128 v) 127 0 ≡ 1 = lowest_bit 127 v ∙ odd in
    bits_xor 128 (v / 2) REDUCTION ∙ ap₂ xored (bits_moved v fits) bits-reduction
    ∙ rw lowest refl

pub times_x-even : (v : ℕ) → v < 2 ^ 128 → v % 2 ≢ 1 → bits 128 (v / 2) ≡ times_x (bits 128 v)
unfolding times_x
times_x-even v fits even =
    let zero_bit : v % 2 ≡ 0 = omega arith in
    let lowest : get_or (bits 128 v) 127 0 ≡ 0 = lowest_bit 127 v ∙ zero_bit in
    bits_moved v fits ∙ rw lowest refl

pub length-times_x : (v : List ℕ) → length v ≡ 128 → length (times_x v) ≡ 128
unfolding times_x
length-times_x v whole =
    let moved = 0 ∷ take 127 v in
    let long : length moved ≡ 128 = omega (arith, length-take {A = ℕ}) in
    cond_length (get_or v 127 0 == 1) (xored moved reduction) moved
    (length-xored moved reduction (omega (arith, length-reduction)) ∙ long) long

pub length-product : (bs y : List ℕ) → length y ≡ 128 → length (product bs y) ≡ 128
unfolding product zero_block
length-product [] y whole = refl
length-product (b ∷ bs) y whole =
    let rest = product bs (times_x y) in
    let long : length rest ≡ 128 = length-product bs (times_x y) (length-times_x y whole) in
    cond_length (b == 1) (xored y rest) rest (length-xored y rest (omega arith) ∙ whole) long

-- the step of the loop that goes over the bits of x
pub product_more : (x k : ℕ) (sum now multiple times : List ℕ)
    → now ≡ (if bit_at x k == 1 then xored sum multiple else sum) → times ≡ times_x multiple
    → xored now (product (bits k x) times) ≡ xored sum (product (bits (suc k) x) multiple)
unfolding product bits
product_more x k sum now multiple times added next =
    rw (added, next) (chosen (bit_at x k == 1) sum multiple (product (bits k x) (times_x multiple)))

pub product_start : (bs y : List ℕ) → length y ≡ 128
    → xored (bits 128 0) (product bs y) ≡ product bs y
product_start bs y whole = rw bits-zero (zeros_xored (product bs y) 128 (length-product bs y whole))

pub product_end : (x : ℕ) (sum y : List ℕ) → length sum ≡ 128
    → xored sum (product (bits 0 x) y) ≡ sum
unfolding product bits zero_block
product_end x sum y whole = xored_zeros sum 128 whole
