-- Lemmas on the XOR of two lists.
use Rattle.std.proofs.Common.{add-one, ◌≡◌, ℕ, zero, suc, ◌+◌, ◌<◌, ◌≤◌, drop, get_or, set, List, [], ◌∷◌, ◌++◌, length, take, replicate, arith, refl, ap, ap₂, ◌∙◌, bit_xor}
use Rattle.std.specs.Int.Bits.{xor_assoc, xor_self, xor_zero_r}
use Rattle.aes_gcm.specs.Bytes.{xored}

pub length-xored : (xs ys : List ℕ) → length xs ≤ length ys → length (xored xs ys) ≡ length xs
length-xored [] ys room = refl
length-xored (x ∷ xs) [] room = absurd (omega arith)
length-xored (x ∷ xs) (y ∷ ys) room = ap (λ (n : ℕ). suc n) (length-xored xs ys (omega arith))

pub xored_assoc : (xs ys zs : List ℕ) → xored (xored xs ys) zs ≡ xored xs (xored ys zs)
xored_assoc [] ys zs = refl
xored_assoc (x ∷ xs) [] zs = refl
xored_assoc (x ∷ xs) (y ∷ ys) [] = refl
xored_assoc (x ∷ xs) (y ∷ ys) (z ∷ zs) =
    ap₂ (λ (v : ℕ) (vs : List ℕ). v ∷ vs) (xor_assoc x y z) (xored_assoc xs ys zs)

pub xored_zeros : (xs : List ℕ) (n : ℕ) → length xs ≡ n → xored xs (replicate n 0) ≡ xs
xored_zeros [] n whole = refl
xored_zeros (x ∷ xs) zero whole = absurd (omega arith)
xored_zeros (x ∷ xs) (suc n) whole =
    ap₂ (λ (v : ℕ) (vs : List ℕ). v ∷ vs) (xor_zero_r x) (xored_zeros xs n (omega arith))

pub zeros_xored : (xs : List ℕ) (n : ℕ) → length xs ≡ n → xored (replicate n 0) xs ≡ xs
zeros_xored [] zero whole = refl
zeros_xored [] (suc n) whole = refl
zeros_xored (x ∷ xs) zero whole = absurd (omega arith)
zeros_xored (x ∷ xs) (suc n) whole = ap (λ (vs : List ℕ). x ∷ vs) (zeros_xored xs n (omega arith))

-- what is XORed twice is as it was
pub xored_twice : (xs ys : List ℕ) → length xs ≤ length ys → xored (xored xs ys) ys ≡ xs
xored_twice [] ys room = refl
xored_twice (x ∷ xs) [] room = absurd (omega arith)
xored_twice (x ∷ xs) (y ∷ ys) room =
    ap₂ (λ (v : ℕ) (vs : List ℕ). v ∷ vs)
    (xor_assoc x y y ∙ ap (bit_xor x) (xor_self y) ∙ xor_zero_r x)
    (xored_twice xs ys (omega arith))

pub xored-append : (xs ys us vs : List ℕ) → length xs ≡ length us
    → xored (xs ++ ys) (us ++ vs) ≡ xored xs us ++ xored ys vs
xored-append [] ys [] vs same = refl
xored-append [] ys (u ∷ us) vs same = absurd (omega arith)
xored-append (x ∷ xs) ys [] vs same = absurd (omega arith)
xored-append (x ∷ xs) ys (u ∷ us) vs same =
    ap (λ (ws : List ℕ). bit_xor x u ∷ ws) (xored-append xs ys us vs (omega arith))

-- ---- a loop that XORs a list onto another, element by element

pub get_or-xored_part : (xs ys : List ℕ) (k : ℕ) → k < length xs → k < length ys
    → get_or (xored (take k xs) ys ++ drop k xs) k 0 ≡ get_or xs k 0
get_or-xored_part [] ys k within also = absurd (omega arith)
get_or-xored_part (x ∷ xs) [] k within also = absurd (omega arith)
get_or-xored_part (x ∷ xs) (y ∷ ys) zero within also = refl
get_or-xored_part (x ∷ xs) (y ∷ ys) (suc k) within also =
    get_or-xored_part xs ys k (omega arith) (omega arith)

xored_more : (xs ys : List ℕ) (k : ℕ) → k < length xs → k < length ys
    → set (xored (take k xs) ys ++ drop k xs) k (bit_xor (get_or xs k 0) (get_or ys k 0))
    ≡ xored (take (suc k) xs) ys ++ drop (suc k) xs
xored_more [] ys k within also = absurd (omega arith)
xored_more (x ∷ xs) [] k within also = absurd (omega arith)
xored_more (x ∷ xs) (y ∷ ys) zero within also = refl
xored_more (x ∷ xs) (y ∷ ys) (suc k) within also =
    ap (λ (ws : List ℕ). bit_xor x y ∷ ws) (xored_more xs ys k (omega arith) (omega arith))

pub xored_over_more : (xs ys now : List ℕ) (k : ℕ) → k < length xs → k < length ys
    → now ≡ xored (take k xs) ys ++ drop k xs
    → set now k (bit_xor (get_or now k 0) (get_or ys k 0))
    ≡ xored (take (k + 1) xs) ys ++ drop (k + 1) xs
xored_over_more xs ys now k within also is =
    rw (is, get_or-xored_part xs ys k within also, add-one) (xored_more xs ys k within also)
