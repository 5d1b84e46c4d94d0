-- What std's parse says of a decimal number of a line file.
use Rattle.std.proofs.Common.{◌≡◌, ◌==◌, ◌&&◌, ◌^◌, ◌<◌, ◌≤◌, ℕ, zero, suc, List, [], ◌∷◌, Bool, true, false, Some, None, Result, Ok, Err, nat_lt, cond, length, refl, ◌∙◌, ap, arith}
use Rattle.std.proofs.lemmas.Bool.Decides.{Decides-ltb, nat_tests}
use Rattle.std.proofs.lemmas.Str.{IsUtf8-from_ascii}
use Rattle.std.proofs.lemmas.Str.Parse.{tells_all_ascii_digits, numerals_by_value, IsNumeralModel}
use Rattle.std.specs.List.{list_all}
use Rattle.std.specs.Str.{IsUtf8, IsAscii, all_ascii_digits}
use Rattle.std.specs.Str.Parse.{IsNumeral, ParsesUnsigned, digits_value, without_leading_plus}
use Rattle.std.specs.Char.{is_ascii_digit}
use Rattle.std.specs.Result.{result_ok}
use Rattle.mdoc_outside.specs.Decimals.{is_decimal}

pub own : IsNumeralModel (λ ds. all_ascii_digits ds ≡ true) (digits_value 10)
own = numerals_by_value (λ ds. all_ascii_digits ds ≡ true) tells_all_ascii_digits

pub all_digits : (ds : List ℕ) → all_ascii_digits ds ≡ list_all is_ascii_digit ds
all_digits [] = refl
all_digits (d ∷ ds) = ap (λ b. is_ascii_digit d && b) (all_digits ds)

digits_ascii : (ds : List ℕ) → all_ascii_digits ds ≡ true → IsAscii ds
digits_ascii [] is i = omega arith
digits_ascii (d ∷ ds) is zero = omega (arith, (tells_all_ascii_digits.parts d ds is).0.1)
digits_ascii (d ∷ ds) is (suc i) = digits_ascii ds (tells_all_ascii_digits.parts d ds is).1 i

-- one digit or more
record Digits (word : List ℕ) : Type 0 where
  some : 0 < length word
  all : all_ascii_digits word ≡ true

both_true : (a b : Bool) → (a && b) ≡ true → (a ≡ true) × (b ≡ true)
both_true true b is = (refl, is)
both_true false b is = cc

some_digit : (d : ℕ) (ds : List ℕ) → 0 < length (d ∷ ds)
some_digit d ds = omega arith

digits_of : (word : List ℕ) → is_decimal word ≡ true → Digits word
digits_of [] is = cc
digits_of (d ∷ ds) is =
    record { some = some_digit d ds; all = all_digits (d ∷ ds) ∙ (both_true _ _ (both_true _ _ is).0).1 }

pub decimal_utf8 : (word : List ℕ) → is_decimal word ≡ true → IsUtf8 word
decimal_utf8 word is = IsUtf8-from_ascii word (digits_ascii word (digits_of word is).all)

not_plus : (d : ℕ) → 48 ≤ d → (d == 43) ≡ false
not_plus d low = grind (arith, nat_tests)

same_digits : (word : List ℕ) → Digits word → without_leading_plus word ≡ word
same_digits [] digits = absurd (omega (arith, digits.some))
same_digits (d ∷ ds) digits = rw (not_plus d (tells_all_ascii_digits.parts d ds digits.all).0.0) refl

parsed_digits : {E : Type 0} (word : List ℕ) (r : Result ℕ E) → ParsesUnsigned 64 10 word r → Digits word
    → result_ok r ≡ cond (nat_lt (digits_value 10 word) (2 ^ 64)) (Some (digits_value 10 word)) None
parsed_digits word (Ok x) parses digits =
    let value : (IsNumeral 10 word × (digits_value 10 word < 2 ^ 64)) × (x ≡ digits_value 10 word) = rw (same_digits word digits) at parses in
    rw ((Decides-ltb (digits_value 10 word) (2 ^ 64)).1 value.0.1, value.1) refl
parsed_digits word (Err e) parses digits =
    let none : IsNumeral 10 word × (digits_value 10 word < 2 ^ 64) → ⊥ = rw (same_digits word digits) at parses in
    elim (nat_lt (digits_value 10 word) (2 ^ 64)) as (λ t. nat_lt (digits_value 10 word) (2 ^ 64) ≡ t → None ≡ cond t (Some (digits_value 10 word)) None)
    [ true ↦ λ is. absurd (none ((digits.some, own.to word digits.all), (Decides-ltb (digits_value 10 word) (2 ^ 64)).0 is)) | false ↦ λ is. refl ] refl

pub parsed : {E : Type 0} (word : List ℕ) (r : Result ℕ E) → ParsesUnsigned 64 10 word r → is_decimal word ≡ true
    → result_ok r ≡ cond (nat_lt (digits_value 10 word) (2 ^ 64)) (Some (digits_value 10 word)) None
parsed word r parses is = parsed_digits word r parses (digits_of word is)
