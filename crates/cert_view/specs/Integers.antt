-- Numbers by the body of an INTEGER (X.690, 8.3): two's complement, the highest byte first, with the fewest
-- bytes.
use Rattle.std.specs.Prelude.{ℕ, ◌+◌, ◌*◌, ◌^◌, ◌-◌, ◌==◌, nat_lt, nat_le, if◌then◌else◌, List, [], ◌∷◌, ◌++◌, length, replicate, Option, Some, None}
use Rattle.mdoc_outside.specs.OptionSteps.{◌>>=◌}

-- Behind a byte 0 in front stands nothing, for the number 0, or a byte whose highest bit is set.
abbrev pub after_zero : List ℕ → Option (List ℕ)
after_zero [] = Some []
after_zero (b ∷ bytes) = if nat_lt b 0x80 then None else Some (b ∷ bytes)

-- the digits of a number, to the base 256 and without zeros in front; none where it is negative or has more
-- bytes than it needs
abbrev pub digits : List ℕ → Option (List ℕ)
digits [] = None
digits (b ∷ bytes) =
    if b == 0 then after_zero bytes else if nat_lt b 0x80 then Some (b ∷ bytes) else None

-- digits in 32 bytes, where they are no more
abbrev pub in_32 : List ℕ → Option (List ℕ)
in_32 bytes =
    if nat_le (length bytes) 32 then Some (replicate (32 - length bytes) 0 ++ bytes) else None

-- the 32 bytes of a number below 2 ^ 256
unfoldable pub number_of : List ℕ → Option (List ℕ)
number_of body = digits body >>= in_32

-- what digits to the base 256 are worth, the highest first
abbrev pub worth : List ℕ → ℕ
worth [] = 0
worth (b ∷ bytes) = b * 256 ^ length bytes + worth bytes
