-- What is written for the values of an exchange is read as these values.
use Rattle.std.proofs.Common.{◌≡◌, ◌==◌, ◌<◌, ◌≤◌, ◌*◌, ◌/◌, ◌%◌, ◌^◌, ◌&&◌, ◌||◌, ◌⊎◌, inl, inr, ℕ, suc, List, [], ◌∷◌, Bool, true, false, not, Some, Ok, length, slice_index, codes, decimal, refl, sym, ◌∙◌, ap, arith}
use Rattle.std.proofs.lemmas.Bool.{and_parts, cases_lt}
use Rattle.std.proofs.lemmas.Bool.Decides.{Decides-ltb, nat_tests}
use Rattle.std.proofs.lemmas.Fmt.{decimal_digit, decimal_nonempty, first_decimal, digits_decimal, digits_value-decimal}
use Rattle.std.proofs.lemmas.List.Sums.{AllPass-from_list_all}
use Rattle.std.proofs.lemmas.Slice.Eq.{bytes_eq-Decides}
use Rattle.std.specs.Char.{is_ascii_digit}
use Rattle.std.specs.List.{list_all}
use Rattle.std.specs.Str.{bytes_eq}
use Rattle.std.specs.Str.Parse.{digits_value}
use Rattle.hex.specs.Hex.{encode_with, encode_lower, lower_digits, decode_of, IsBytes}
use Rattle.hex.proofs.HexLemmas.{length-encode_with, decode_sized-encode_lower, decode_of-encode_lower}
use Rattle.mdoc_outside.proofs.DecimalLemmas.{own, all_digits}
use Rattle.mdoc_outside.specs.Decimals.{is_decimal}
use Rattle.key_device.specs.TapeLine.{is_lower_digit, number_of, bytes_of, message_of, point_of}
use Rattle.key_device.specs.TapeText.{message_text}
use Rattle.key_device.specs.HasLine.{IsSized, IsPoint}
use Rattle.key_device.specs.declared.point.Point.{Point}

-- a byte of a word is neither a space nor a line feed
abbrev pub is_word_byte : ℕ → Bool
is_word_byte byte = not (byte == 32) && not (byte == 10)

all_weaker : (p q : ℕ → Bool) → ((b : ℕ) → p b ≡ true → q b ≡ true) → (xs : List ℕ) → list_all p xs ≡ true → list_all q xs ≡ true
all_weaker p q weaker [] all = refl
all_weaker p q weaker (x ∷ xs) all =
    let parts = and_parts (p x) (list_all p xs) all in
    rw (weaker x parts.0, all_weaker p q weaker xs parts.1) refl

lower_in_word : (b : ℕ) → is_lower_digit b ≡ true → is_word_byte b ≡ true
lower_in_word b is = grind (arith, nat_tests)

digit_in_word : (b : ℕ) → is_ascii_digit b ≡ true → is_word_byte b ≡ true
digit_in_word b is = grind (arith, nat_tests)

digit_lower : (k : ℕ) → k < 16 → is_lower_digit (slice_index lower_digits k) ≡ true
digit_lower k within = AllPass-from_list_all is_lower_digit lower_digits refl k 0 within

all_lower : (xs : List ℕ) → IsBytes xs → list_all is_lower_digit (encode_lower xs) ≡ true
unfolding encode_with
all_lower [] bytes = refl
all_lower (b ∷ xs) bytes =
    let fits : b < 256 = bytes 0 in
    let high = digit_lower (b / 16) (omega arith) in
    let low = digit_lower (b % 16) (omega arith) in
    let rest = all_lower xs (λ i. bytes (suc i)) in
    rw (high, low, rest) refl

pub hex_word : (xs : List ℕ) → IsBytes xs → list_all is_word_byte (encode_lower xs) ≡ true
hex_word xs bytes = all_weaker is_lower_digit is_word_byte lower_in_word (encode_lower xs) (all_lower xs bytes)

pub bytes_read : (n : ℕ) (xs : List ℕ) → IsSized n xs → bytes_of n (encode_lower xs) ≡ Some xs
unfolding bytes_of
bytes_read n xs sized = rw (all_lower xs sized.each, decode_sized-encode_lower xs n sized.count sized.each) refl

pub point_read : (p : Point) → IsPoint p → point_of (encode_lower p.x) (encode_lower p.y) ≡ Some p
point_read p is = rw (bytes_read 32 p.x is.x, bytes_read 32 p.y is.y) refl

-- texts of other lengths differ
pub other_length : (one other : List ℕ) → (length one ≡ length other → ⊥) → bytes_eq one other ≡ false
other_length one other differ =
    elim (bytes_eq one other) as (λ t. bytes_eq one other ≡ t → bytes_eq one other ≡ false)
    [ true ↦ λ is. absurd (differ (ap length ((bytes_eq-Decides one other).0 is))) | false ↦ λ is. is ] refl

pub hex_is_not : (xs text : List ℕ) → (2 * length xs ≡ length text → ⊥) → bytes_eq (encode_lower xs) text ≡ false
hex_is_not xs text differ = other_length (encode_lower xs) text (λ same. differ (sym (length-encode_with lower_digits xs) ∙ same))

word_of_bytes : (word bytes : List ℕ) → 0 < length word → bytes_eq word (codes "-") ≡ false
    → list_all is_lower_digit word ≡ true → decode_of word ≡ Ok bytes → message_of word ≡ Some bytes
unfolding message_of
word_of_bytes [] bytes some dash lower is = absurd (omega arith)
word_of_bytes (b ∷ word) bytes some dash lower is = rw (dash, lower, is) refl

pub message_read : (m : List ℕ) → IsBytes m → message_of (message_text m) ≡ Some m
unfolding message_of
message_read [] bytes = refl
message_read (b ∷ m) bytes =
    let count = length-encode_with lower_digits (b ∷ m) in
    let more : 2 ≤ length (encode_lower (b ∷ m)) = omega arith in
    word_of_bytes (encode_lower (b ∷ m)) (b ∷ m) (omega arith) (other_length (encode_lower (b ∷ m)) (codes "-") (λ same. omega arith))
    (all_lower (b ∷ m) bytes) (decode_of-encode_lower (b ∷ m) bytes)

pub message_word : (m : List ℕ) → IsBytes m → list_all is_word_byte (message_text m) ≡ true
message_word [] bytes = refl
message_word (b ∷ m) bytes = hex_word (b ∷ m) bytes

decimal_digits : (n : ℕ) → n < 2 ^ 64 → list_all is_ascii_digit (decimal n) ≡ true
decimal_digits n wide = sym (all_digits (decimal n)) ∙ digits_decimal own n wide

or_true : (b : Bool) → (b || true) ≡ true
or_true true = refl
or_true false = refl

is_form : (word : List ℕ) → 0 < length word → list_all is_ascii_digit word ≡ true → (length word ≡ 1) ⊎ (48 < slice_index word 0) → is_decimal word ≡ true
is_form word some digits (inl one) = rw (one, digits) refl
is_form word some digits (inr first) =
    let filled : (length word == 0) ≡ false = grind (arith, nat_tests) in
    let led : (slice_index word 0 == 48) ≡ false = grind (arith, nat_tests) in
    rw (filled, digits, led) (or_true (length word == 1))

form_of : (n : ℕ) → n < 2 ^ 64 → (length (decimal n) ≡ 1) ⊎ (48 < slice_index (decimal n) 0)
form_of n wide = elim (cases_lt n 10) [
  | inl one ↦ inl (ap length (decimal_digit n one))
  | inr more ↦ inr (first_decimal n (omega arith) wide)
]

decimal_form : (n : ℕ) → n < 2 ^ 64 → is_decimal (decimal n) ≡ true
decimal_form n wide = is_form (decimal n) (decimal_nonempty n wide) (decimal_digits n wide) (form_of n wide)

pub number_read : (n : ℕ) → n < 2 ^ 32 → number_of (decimal n) ≡ Some n
unfolding number_of
number_read n fits =
    let wide : n < 2 ^ 64 = omega arith in
    let value : digits_value 10 (decimal n) ≡ n = digits_value-decimal own n wide in
    rw (decimal_form n wide, value, (Decides-ltb n (2 ^ 32)).1 fits) refl

pub number_word : (n : ℕ) → n < 2 ^ 32 → list_all is_word_byte (decimal n) ≡ true
number_word n fits = all_weaker is_ascii_digit is_word_byte digit_in_word (decimal n) (decimal_digits n (omega arith))
