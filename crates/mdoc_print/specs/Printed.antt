-- What the program prints, line by line.
use Rattle.std.specs.Prelude.{ℕ, nat_le, ◌==◌, List, [], ◌∷◌, ◌++◌, flat_map, Bool, not, ◌&&◌, if◌then◌else◌, codes}
use Rattle.hex.specs.Hex.{encode_lower}

-- a line ends with a line feed
abbrev pub line : List ℕ → List ℕ
line text = text ++ 10 ∷ []

-- A name prints its bytes 21 to 7e but `%` as they are, and every other one as `%` and two lower-case hexadecimal
-- digits; an empty name prints as `%`.
abbrev pub is_plain_byte : ℕ → Bool
is_plain_byte byte = nat_le 0x21 byte && nat_le byte 0x7e && not (byte == 37)

abbrev pub byte_text : ℕ → List ℕ
byte_text byte = if is_plain_byte byte then byte ∷ [] else 37 ∷ encode_lower (byte ∷ [])

abbrev pub name_text : List ℕ → List ℕ
name_text [] = codes "%"
name_text (byte ∷ bytes) = flat_map byte_text (byte ∷ bytes)
