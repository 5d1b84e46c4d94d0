-- Digits that aren't read as a number have too large a number.
use Rattle.std.proofs.Common.{◌≡◌, ℕ, ◌<◌, ◌≤◌, ◌^◌, ◌==◌, List, [], ◌∷◌, length, Bool, true, false, not, ◌&&◌, refl, arith, Result, Ok, Err, rules}
use Rattle.std.specs.Prelude.{nat_le}
use Rattle.std.specs.Str.{all_ascii_digits}
use Rattle.std.specs.Str.Parse.{digits_value, digits_value_after, ParsesUnsigned}
use Rattle.std.proofs.lemmas.Bool.{and_parts}
use Rattle.std.proofs.lemmas.Bool.Decides.{nat_tests}
use Rattle.std.proofs.lemmas.Str.Parse.{IsNumeralModel, numerals_by_fold, tells_all_ascii_digits, parse_digits, parse_gives}
use Rattle.mdoc_frame.specs.Number.{has_leading_zero, is_plain, is_number}

own : IsNumeralModel (λ ds. all_ascii_digits ds ≡ true) (digits_value 10)
own = numerals_by_fold _ tells_all_ascii_digits (digits_value_after 10) (search rules)

neither : (a b : Bool) → false ≡ (a && b && false)
neither true true = refl
neither true false = refl
neither false b = refl

plain-digits : (word : List ℕ) → is_plain word ≡ true → (all_ascii_digits word ≡ true) × (0 < length word)
plain-digits word plain =
    let outer = and_parts (not (length word == 0) && all_ascii_digits word) (not (has_leading_zero word)) plain in
    let inner = and_parts (not (length word == 0)) (all_ascii_digits word) outer.0 in
    (inner.1, some word inner.0) where
      some : (word : List ℕ) → not (length word == 0) ≡ true → 0 < length word
      some [] is = absurd cc
      some (b ∷ word) is = omega arith

pub too_large : {E : Type 0} (e : E) (least most : ℕ) (word : List ℕ) → is_plain word ≡ true → most < 2 ^ 64 →
    ParsesUnsigned 64 10 word (Err e) → false ≡ is_number least most word
too_large e least most word plain small parses =
    let parts = plain-digits word plain in
    let refused = parse_digits own 64 word (Err e) parses parts.0 in
    elim (nat_le (digits_value 10 word) most) as (λ t. nat_le (digits_value 10 word) most ≡ t → false ≡ (is_plain word && nat_le least (digits_value 10 word) && t)) [
      | true ↦ λ is. let within : digits_value 10 word ≤ most = grind (arith, nat_tests) in absurd (refused (parts.1, omega arith))
      | false ↦ λ is. neither (is_plain word) (nat_le least (digits_value 10 word))
    ] refl

-- a moment of the words is read, and is small
pub moment_parts : (word : List ℕ) → is_number 0 253402300799 word ≡ true → (is_plain word ≡ true) × (digits_value 10 word ≤ 253402300799)
moment_parts word number =
    let outer = and_parts (is_plain word && nat_le 0 (digits_value 10 word)) (nat_le (digits_value 10 word) 253402300799) number in
    ((and_parts (is_plain word) (nat_le 0 (digits_value 10 word)) outer.0).0, let most = outer.1 in grind (arith, nat_tests))

pub moment_read : {E : Type 0} (word : List ℕ) (read : Result ℕ E) → is_number 0 253402300799 word ≡ true → ParsesUnsigned 64 10 word read →
    read ≡ Ok (digits_value 10 word)
moment_read word read number parses =
    let parts = moment_parts word number in
    let digits = plain-digits word parts.0 in
    let small : digits_value 10 word < 2 ^ 64 = let most = parts.1 in omega arith in
    parse_gives own 64 word read parses digits.0 digits.1 small
