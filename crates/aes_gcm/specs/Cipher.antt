-- AES with a key of 256 bits (FIPS 197 as updated in 2023) on lists of bytes.
use Rattle.std.specs.Prelude.{ℕ, zero, suc, ◌+◌, ◌-◌, ◌*◌, ◌/◌, ◌%◌, ◌==◌, if◌then◌else◌, List, [], ◌∷◌, ◌++◌, take, drop, bit_xor, slice_index}
use Rattle.aes_gcm.specs.Field.{power_of_x, product, sbox}

-- the byte of a state at a row and a column: the columns follow one another (section 3.4)
abbrev pub state_at : List ℕ → ℕ → ℕ → ℕ
state_at state row column = slice_index state (row + 4 * column)

-- the state that has f r c at row r and column c
abbrev pub state_of : (ℕ → ℕ → ℕ) → List ℕ
state_of f =
    f 0 0 ∷ f 1 0 ∷ f 2 0 ∷ f 3 0 ∷ f 0 1 ∷ f 1 1 ∷ f 2 1 ∷ f 3 1 ∷
    f 0 2 ∷ f 1 2 ∷ f 2 2 ∷ f 3 2 ∷ f 0 3 ∷ f 1 3 ∷ f 2 3 ∷ f 3 3 ∷ []

-- SUBBYTES (section 5.1.1)
unfoldable pub sub_bytes : List ℕ → List ℕ
sub_bytes state = state_of (λ r c. sbox (state_at state r c))

-- SHIFTROWS (section 5.1.2)
unfoldable pub shift_rows : List ℕ → List ℕ
shift_rows state = state_of (λ r c. state_at state r ((c + r) % 4))

-- MIXCOLUMNS (section 5.1.3): the byte of a column from itself and the three that follow it
abbrev pub mixed : ℕ → ℕ → ℕ → ℕ → ℕ
mixed b0 b1 b2 b3 = bit_xor (bit_xor (bit_xor (product 2 b0) (product 3 b1)) b2) b3

unfoldable pub mix_columns : List ℕ → List ℕ
mix_columns state = state_of (λ r c.
    mixed (state_at state r c) (state_at state ((r + 1) % 4) c)
    (state_at state ((r + 2) % 4) c) (state_at state ((r + 3) % 4) c))

-- ADDROUNDKEY (section 5.1.4)
unfoldable pub add_round_key : List ℕ → List ℕ → List ℕ
add_round_key state round_key =
    state_of (λ r c. bit_xor (state_at state r c) (state_at round_key r c))

-- word i of the words that follow one another, four bytes each
abbrev pub word_at : List ℕ → ℕ → List ℕ
word_at words i =
    slice_index words (4 * i) ∷ slice_index words (4 * i + 1) ∷ slice_index words (4 * i + 2)
    ∷ slice_index words (4 * i + 3) ∷ []

abbrev pub xored_words : List ℕ → List ℕ → List ℕ
xored_words u v =
    bit_xor (slice_index u 0) (slice_index v 0) ∷ bit_xor (slice_index u 1) (slice_index v 1)
    ∷ bit_xor (slice_index u 2) (slice_index v 2) ∷ bit_xor (slice_index u 3) (slice_index v 3) ∷ []

-- ROTWORD and SUBWORD (section 5.2)
abbrev pub rot_word : List ℕ → List ℕ
rot_word w = slice_index w 1 ∷ slice_index w 2 ∷ slice_index w 3 ∷ slice_index w 0 ∷ []

abbrev pub sub_word : List ℕ → List ℕ
sub_word w =
    sbox (slice_index w 0) ∷ sbox (slice_index w 1) ∷ sbox (slice_index w 2)
    ∷ sbox (slice_index w 3) ∷ []

-- the round constant Rcon[j]: x^(j - 1) and three zeros (section 5.2)
abbrev pub round_constant : ℕ → List ℕ
round_constant j = power_of_x (j - 1) ∷ 0 ∷ 0 ∷ 0 ∷ []

-- what KEYEXPANSION makes of word i - 1 before it is added to word i - 8 (section 5.2, Nk = 8)
unfoldable pub changed_word : List ℕ → ℕ → List ℕ
changed_word w i =
    if i % 8 == 0 then xored_words (sub_word (rot_word w)) (round_constant (i / 8))
    else if i % 8 == 4 then sub_word w else w

-- word i from the words before it
unfoldable pub next_word : List ℕ → ℕ → List ℕ
next_word words i =
    xored_words (word_at words (i - 8)) (changed_word (word_at words (i - 1)) i)

-- the key's eight words and the n words that follow them
unfoldable pub expansion : List ℕ → ℕ → List ℕ
expansion key zero = key
expansion key (suc n) = expansion key n ++ next_word (expansion key n) (n + 8)

-- KEYEXPANSION: 60 words, four for each round key (section 5.2)
unfoldable pub expanded_key : List ℕ → List ℕ
expanded_key key = expansion key 52

unfoldable pub round_key : List ℕ → ℕ → List ℕ
round_key key round = take 16 (drop (16 * round) (expanded_key key))

-- the state after the first round key and n whole rounds (section 5.1)
unfoldable pub rounds : List ℕ → List ℕ → ℕ → List ℕ
rounds key block zero = add_round_key block (round_key key 0)
rounds key block (suc n) =
    add_round_key (mix_columns (shift_rows (sub_bytes (rounds key block n))))
    (round_key key (suc n))

-- CIPHER with 14 rounds, the last of them without MIXCOLUMNS (section 5.1)
unfoldable pub aes : List ℕ → List ℕ → List ℕ
aes key block = add_round_key (shift_rows (sub_bytes (rounds key block 13))) (round_key key 14)
