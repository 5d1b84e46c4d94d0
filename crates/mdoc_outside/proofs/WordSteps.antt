-- What the first word of a line is.
use Rattle.std.proofs.Common.{◌≡◌, ℕ, ◌==◌, List, [], ◌∷◌, true, false, cond, length, filter, refl, sym, ◌∙◌, ap, arith}
use Rattle.std.specs.List.{slice_split, onto_first}
use Rattle.mdoc_outside.specs.Lines.{after_spaces, is_part, words}

-- the first part of a line that doesn't begin with a space has a byte
part_begins : (b : ℕ) (parts : List (List ℕ)) (word : List ℕ) (more : List (List ℕ)) → onto_first b parts ≡ word ∷ more → is_part word ≡ true
part_begins b [] word more e = let w : b ∷ [] ≡ word = cc in rw (sym w) refl
part_begins b (part ∷ parts) word more e = let w : b ∷ part ≡ word = cc in rw (sym w) refl

first_kept : (b : ℕ) (parts : List (List ℕ)) (word : List ℕ) (more : List (List ℕ)) → onto_first b parts ≡ word ∷ more → filter is_part (onto_first b parts) ≡ word ∷ filter is_part more
first_kept b parts word more e = rw (e, part_begins b parts word more e) refl

-- the words of a line are those after the spaces before it
words_after : (bytes : List ℕ) → words (after_spaces bytes) ≡ words bytes
unfolding words
words_after [] = refl
words_after (b ∷ bytes) =
    elim (b == 32) as (λ t. (b == 32) ≡ t → words (cond t (after_spaces bytes) (b ∷ bytes)) ≡ filter is_part (cond t ([] ∷ slice_split (λ x. x == 32) bytes) (onto_first b (slice_split (λ x. x == 32) bytes))))
    [ true ↦ λ is. words_after bytes | false ↦ λ is. rw is refl ] refl

-- what stands after the spaces doesn't begin with one
begins : (bytes : List ℕ) (b : ℕ) (more : List ℕ) → b ∷ more ≡ after_spaces bytes → (b == 32) ≡ false
begins [] b more e = cc
begins (x ∷ bytes) b more e =
    elim (x == 32) as (λ t. (x == 32) ≡ t → b ∷ more ≡ cond t (after_spaces bytes) (x ∷ bytes) → (b == 32) ≡ false)
    [ true ↦ λ is f. begins bytes b more f | false ↦ λ is f. let same : b ≡ x = cc in rw same is ] refl e

no_bytes : (line : List ℕ) → (length line == 0) ≡ true → line ≡ []
no_bytes [] empty = refl
no_bytes (b ∷ line) empty = grind arith

-- a line of spaces has no words
pub words_none : (bytes line : List ℕ) → line ≡ after_spaces bytes → (length line == 0) ≡ true → words bytes ≡ []
unfolding words
words_none bytes line is empty = sym (words_after bytes) ∙ ap words (sym is ∙ no_bytes line empty)

-- the first part after the spaces is the first word
pub words_first : (bytes line word rest : List ℕ) → line ≡ after_spaces bytes → (length line == 0) ≡ false → slice_split (λ x. x == 32) line ≡ word ∷ slice_split (λ x. x == 32) rest → words bytes ≡ word ∷ words rest
unfolding words
words_first bytes [] word rest is some e = cc
words_first bytes (b ∷ line) word rest is some e =
    let plain : (b == 32) ≡ false = begins bytes b line is in
    let parts : onto_first b (slice_split (λ x. x == 32) line) ≡ word ∷ slice_split (λ x. x == 32) rest = rw plain at e in
    sym (words_after bytes) ∙ ap words (sym is) ∙ rw plain (first_kept b (slice_split (λ x. x == 32) line) word (slice_split (λ x. x == 32) rest) parts)

-- a line of one word
pub words_last : (bytes line : List ℕ) → line ≡ after_spaces bytes → (length line == 0) ≡ false → slice_split (λ x. x == 32) line ≡ line ∷ [] → words bytes ≡ line ∷ words []
unfolding words
words_last bytes [] is some e = cc
words_last bytes (b ∷ line) is some e = sym (words_after bytes) ∙ ap words (sym is) ∙ ap (filter is_part) e

-- what the function that takes one off wants
pub ruleset word_steps = (words_none, words_first, words_last)
