-- The spelling of each tree in which every head is as short as it can be (RFC 8949, section 4.2.1), with
-- the words for its kinds. Entries of a map keep their order.
use Rattle.std.specs.Prelude.{ℕ, ◌^◌, Bool, true, false, nat_lt, ◌==◌, if◌then◌else◌, ℤ, pos, negsuc, List, [], ◌∷◌, ◌++◌, length, flat_map}
use Rattle.cbor_view.specs.Tree.{Tree, Unsigned, Negative, Bytes, Text, Array, Map, Tag, Simple, Float, Trees, none, more, Pairs, no_pair, pair}
use Rattle.cbor_view.specs.Spelling.{Form, Within, One, Two, Four, Eight, head}

abbrev pub shortest_form : ℕ → Form
shortest_form n = if nat_lt n 24 then Within else (if nat_lt n (2 ^ 8) then One else (if nat_lt n (2 ^ 16) then Two else (if nat_lt n (2 ^ 32) then Four else Eight)))

-- the shortest head of that major type with that argument
abbrev pub shortest_head : ℕ → ℕ → List ℕ
shortest_head major n = head (shortest_form n) major n

abbrev pub uint_bytes : ℕ → List ℕ
uint_bytes n = shortest_head 0 n

abbrev pub int_bytes : ℤ → List ℕ
int_bytes (pos n) = shortest_head 0 n
int_bytes (negsuc n) = shortest_head 1 n

-- a string of bytes, and one of text, which is given as its bytes
abbrev pub bytes_bytes : List ℕ → List ℕ
bytes_bytes b = shortest_head 2 (length b) ++ b

abbrev pub text_bytes : List ℕ → List ℕ
text_bytes b = shortest_head 3 (length b) ++ b

-- an array of parts that are given as their bytes, whatever these are
abbrev pub array_bytes : List (List ℕ) → List ℕ
array_bytes parts = shortest_head 4 (length parts) ++ flat_map (λ part. part) parts

-- a map of keys and values that are given as their bytes
abbrev pub map_bytes : List (List ℕ × List ℕ) → List ℕ
map_bytes pairs = shortest_head 5 (length pairs) ++ flat_map (λ entry. entry.0 ++ entry.1) pairs

-- a tag on an item that is given as its bytes
abbrev pub tag_bytes : ℕ → List ℕ → List ℕ
tag_bytes n inner = shortest_head 6 n ++ inner

-- a simple value, in one byte or two (section 3.3)
abbrev pub simple_bytes : ℕ → List ℕ
simple_bytes n = head (if nat_lt n 24 then Within else One) 7 n

abbrev pub boolean_bytes : Bool → List ℕ
boolean_bytes false = simple_bytes 20
boolean_bytes true = simple_bytes 21

abbrev pub null_bytes : List ℕ
null_bytes = simple_bytes 22

abbrev pub float_bytes : ℕ → ℕ → List ℕ
float_bytes width n = head (if width == 2 then Two else (if width == 4 then Four else Eight)) 7 n

abbrev mutual
  pub shortest : Tree → List ℕ
  shortest (Unsigned n) = uint_bytes n
  shortest (Negative n) = shortest_head 1 n
  shortest (Bytes b) = bytes_bytes b
  shortest (Text b) = text_bytes b
  shortest (Array ts) = array_bytes (shortest_of_all ts)
  shortest (Map ps) = map_bytes (shortest_of_pairs ps)
  shortest (Tag n t) = tag_bytes n (shortest t)
  shortest (Simple n) = simple_bytes n
  shortest (Float w n) = float_bytes w n

  pub shortest_of_all : Trees → List (List ℕ)
  shortest_of_all none = []
  shortest_of_all (more t ts) = shortest t ∷ shortest_of_all ts

  pub shortest_of_pairs : Pairs → List (List ℕ × List ℕ)
  shortest_of_pairs no_pair = []
  shortest_of_pairs (pair k v ps) = (shortest k, shortest v) ∷ shortest_of_pairs ps
