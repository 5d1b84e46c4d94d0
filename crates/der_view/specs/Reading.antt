-- Reading an element from the front of bytes (X.690, 8.1 and 10.1), or what is wrong with it.
use Rattle.std.specs.Prelude.{◌≡◌, ℕ, ◌+◌, ◌-◌, ◌*◌, ◌%◌, ◌^◌, Bool, false, ◌||◌, ◌&&◌, nat_lt, ◌==◌, if◌then◌else◌, List, [], ◌∷◌, length, take, drop, Result, Ok, Err}
use Rattle.der_view.specs.declared.der_kind.DerKind.{DerKind}
use Rattle.der_view.specs.declared.der_kind.DerKind.TheVariants.{Short, HighTag, Length, Trailing}
use Rattle.der_view.specs.declared.der_fault.DerFault.{DerFault}

infixl 10 ◌>>=◌
-- the first fault, or what the next step gives
abbrev pub ◌>>=◌ : {A B E : Type 0} → Result A E → (A → Result B E) → Result B E
(Ok x) >>= f = f x
(Err e) >>= f = Err e

-- What a call returned, seen by `view`, is what the definition reads.
abbrev pub Gives : {X Y E : Type 0} → (X → Y) → Result X E → Result Y E → Type 0
Gives view (Ok x) read = read ≡ Ok (view x)
Gives view (Err e) read = read ≡ Err e

-- a number in one to four bytes, the highest first, and what follows it
abbrev pub one_at : List ℕ → Result (ℕ × List ℕ) DerKind
one_at (a ∷ rest) = Ok (a, rest)
one_at _ = Err Short

abbrev pub two_at : List ℕ → Result (ℕ × List ℕ) DerKind
two_at (a ∷ (b ∷ rest)) = Ok (a * 2 ^ 8 + b, rest)
two_at _ = Err Short

abbrev pub three_at : List ℕ → Result (ℕ × List ℕ) DerKind
three_at (a ∷ (b ∷ (c ∷ rest))) = Ok ((a * 2 ^ 8 + b) * 2 ^ 8 + c, rest)
three_at _ = Err Short

abbrev pub four_at : List ℕ → Result (ℕ × List ℕ) DerKind
four_at (a ∷ (b ∷ (c ∷ (d ∷ rest)))) = Ok (((a * 2 ^ 8 + b) * 2 ^ 8 + c) * 2 ^ 8 + d, rest)
four_at _ = Err Short

-- in how many bytes it is, by that first byte
abbrev pub digit_count : ℕ → ℕ
digit_count first = if first == 0x81 then 1 else (if first == 0x82 then 2 else (if first == 0x83 then 3 else 4))

-- the length by the first byte of its long form, which is 0x81 to 0x84
abbrev pub digits_at : ℕ → List ℕ → Result (ℕ × List ℕ) DerKind
digits_at first bytes = if first == 0x81 then one_at bytes else (if first == 0x82 then two_at bytes else (if first == 0x83 then three_at bytes else four_at bytes))

-- the number would have fewer bytes: it begins with 0, or is below 128 where one byte follows
abbrev pub is_padded : ℕ → List ℕ → Bool
is_padded first [] = false
is_padded first (d ∷ ds) = (d == 0) || ((first == 0x81) && nat_lt d 0x80)

-- an indefinite length, or one in more than four bytes, or one that would have fewer
abbrev pub is_refused : ℕ → List ℕ → Bool
is_refused first bytes = (first == 0x80) || (nat_lt 0x84 first || is_padded first bytes)

abbrev pub long_at : ℕ → List ℕ → Result (ℕ × List ℕ) DerKind
long_at first bytes = if is_refused first bytes then Err Length else digits_at first bytes

abbrev pub length_at : List ℕ → Result (ℕ × List ℕ) DerKind
length_at [] = Err Short
length_at (first ∷ rest) = if nat_lt first 0x80 then Ok (first, rest) else long_at first rest

abbrev pub body_at : ℕ → ℕ → List ℕ → Result (ℕ × List ℕ × List ℕ) DerKind
body_at tag n bytes = if nat_lt (length bytes) n then Err Short else Ok (tag, take n bytes, drop n bytes)

-- the tag and the body of the element at the front, and what follows it
unfoldable pub first_at : List ℕ → Result (ℕ × List ℕ × List ℕ) DerKind
first_at [] = Err Short
first_at (tag ∷ rest) = if tag % 32 == 31 then Err HighTag else (length_at rest >>= λ x. body_at tag x.0 x.1)

-- nothing may follow it
abbrev pub alone : ℕ → Result (ℕ × List ℕ × List ℕ) DerKind → Result (ℕ × List ℕ) DerFault
alone len (Ok x) = if length x.2 == 0 then Ok (x.0, x.1) else Err (record { kind = Trailing; at = len - length x.2 })
alone len (Err kind) = Err (record { kind = kind; at = 0 })

-- all of the bytes as one element: its tag and its body
unfoldable pub reads : List ℕ → Result (ℕ × List ℕ) DerFault
reads bytes = alone (length bytes) (first_at bytes)

-- the tag and the body, or nothing where the bytes are no element
abbrev pub tag_or_zero : Result (ℕ × List ℕ) DerFault → ℕ
tag_or_zero (Ok x) = x.0
tag_or_zero (Err e) = 0

abbrev pub body_or_none : Result (ℕ × List ℕ) DerFault → List ℕ
body_or_none (Ok x) = x.1
body_or_none (Err e) = []

unfoldable pub tag_of : List ℕ → ℕ
tag_of bytes = tag_or_zero (reads bytes)

unfoldable pub body_of : List ℕ → List ℕ
body_of bytes = body_or_none (reads bytes)
