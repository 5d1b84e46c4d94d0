-- Lists of bytes or of bits, XORed with each other.
use Rattle.std.specs.Prelude.{ℕ, List, [], ◌∷◌, bit_xor}

-- the XOR of two lists, as long as the shorter one
abbrev pub xored : List ℕ → List ℕ → List ℕ
xored [] ys = []
xored (x ∷ xs) [] = []
xored (x ∷ xs) (y ∷ ys) = bit_xor x y ∷ xored xs ys
