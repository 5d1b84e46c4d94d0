-- Lemmas on the expanded key and the rounds of AES.
use Rattle.std.proofs.Common.{◌≡◌, ℕ, zero, suc, ◌+◌, ◌-◌, ◌*◌, ◌<◌, ◌≤◌, List, ◌++◌, length, take, arith, refl, ap, ap₂, ◌∙◌, sym, get_or, add-one, length-append}
use Rattle.std.proofs.lemmas.List.{get_or-take, take-append-le, take_all}
use Rattle.std.proofs.lemmas.Slice.{take-put_mid}
use borrow.Rule.Slice.PartMut.{put_mid}
use Rattle.aes_gcm.specs.Cipher.{add_round_key, aes, changed_word, expanded_key, expansion, mix_columns, next_word, round_key, rounds, shift_rows, sub_bytes, word_at, xored_words}

pub length-expansion : (key : List ℕ) (n : ℕ) → length key ≡ 32
    → length (expansion key n) ≡ 32 + 4 * n
unfolding expansion next_word
length-expansion key zero whole = whole
length-expansion key (suc n) whole = rw length-append (omega (arith, length-expansion key n whole))

-- the key is the first part of its expansion
pub take-expansion : (key : List ℕ) (n : ℕ) → length key ≡ 32 → take 32 (expansion key n) ≡ key
unfolding expansion
take-expansion key zero whole = take_all 32 key (omega arith)
take-expansion key (suc n) whole =
    take-append-le 32 (expansion key n) _ (omega (arith, length-expansion key n whole))
    ∙ take-expansion key n whole

pub take-expanded_key : (key : List ℕ) → length key ≡ 32 → take 32 (expanded_key key) ≡ key
unfolding expanded_key
take-expanded_key key whole = take-expansion key 52 whole

word_at-take : (words : List ℕ) (n i : ℕ) → 4 * i + 4 ≤ n
    → word_at (take n words) i ≡ word_at words i
word_at-take words n i inside =
    let same : (j : ℕ) → j < n → get_or (take n words) j 0 ≡ get_or words j 0 =
    λ j below. get_or-take n words j 0 below in
    rw (
      same (4 * i) (omega arith),
      same (4 * i + 1) (omega arith),
      same (4 * i + 2) (omega arith),
      same (4 * i + 3) (omega arith),
    )
    refl

-- a word depends on the words before it alone
next_word-take : (words : List ℕ) (i : ℕ) → 8 ≤ i
    → next_word (take (4 * i) words) i ≡ next_word words i
unfolding next_word
next_word-take words i low =
    ap₂ (λ (before last : List ℕ). xored_words before (changed_word last i))
    (word_at-take words (4 * i) (i - 8) (omega arith))
    (word_at-take words (4 * i) (i - 1) (omega arith))

-- the step of a loop that writes word after word
pub words_more : (key words next word : List ℕ) (i : ℕ) → 8 ≤ i → 4 * i ≤ length words
    → length word ≡ 4
    → take (4 * i) words ≡ expansion key (i - 8) → word ≡ next_word words i
    → next ≡ put_mid (4 * i) (4 * i + 4 - 4 * i) words word
    → take (4 * (i + 1)) next ≡ expansion key (i + 1 - 8)
unfolding expansion
words_more key words next word i low inside four same is put =
    let count : i + 1 - 8 ≡ suc (i - 8) = omega arith in
    let number : i - 8 + 8 ≡ i = omega arith in
    rw (put, count, number, ← same)
    (take-put_mid (4 * i) (4 * i + 4 - 4 * i) words word (4 * (i + 1)) (omega arith) inside
    ∙ ap (λ (w : List ℕ). take (4 * i) words ++ w) (is ∙ sym (next_word-take words i low)))

pub rounds_none : (key block : List ℕ) → rounds key block 0 ≡ add_round_key block (round_key key 0)
unfolding rounds
rounds_none key block = refl

pub rounds_more : (key block : List ℕ) (n : ℕ)
    → rounds key block (n + 1)
    ≡ add_round_key (mix_columns (shift_rows (sub_bytes (rounds key block n))))
    (round_key key (n + 1))
unfolding rounds
rounds_more key block n = rw add-one refl

pub aes_is : (key block : List ℕ)
    → aes key block
    ≡ add_round_key (shift_rows (sub_bytes (rounds key block 13))) (round_key key 14)
unfolding aes
aes_is key block = refl

-- what the loop over the rounds rests on
pub ruleset round_steps = (rounds_none, rounds_more, aes_is)
