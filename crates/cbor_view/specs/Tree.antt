-- The data items of CBOR as trees (RFC 8949, sections 2 and 3.1), and what each tree holds.
use Rattle.std.specs.Prelude.{ℕ, suc, max, Bool, true, false, ◌==◌, if◌then◌else◌, ℤ, pos, negsuc, List, [], ◌∷◌, Option, Some, None}

mutual
  -- one data item, by its major type; text is kept as its bytes, a float as its bits
  pub data Tree : Type 0 where
    Unsigned : ℕ → Tree
    -- `Negative n` is the number -1 - n
    Negative : ℕ → Tree
    Bytes : List ℕ → Tree
    Text : List ℕ → Tree
    Array : Trees → Tree
    Map : Pairs → Tree
    Tag : ℕ → Tree → Tree
    -- false is 20, true is 21, null is 22
    Simple : ℕ → Tree
    -- the width in bytes, and the bits
    Float : ℕ → ℕ → Tree

  -- the items of an array, in order
  pub data Trees : Type 0 where
    none : Trees
    more : Tree → Trees → Trees

  -- the keys of a map, each with its value, in order
  pub data Pairs : Type 0 where
    no_pair : Pairs
    pair : Tree → Tree → Pairs → Pairs

-- the items and the pairs as lists
abbrev pub listed : Trees → List Tree
listed none = []
listed (more t ts) = t ∷ listed ts

abbrev pub listed_pairs : Pairs → List (Tree × Tree)
listed_pairs no_pair = []
listed_pairs (pair k v ps) = (k, v) ∷ listed_pairs ps

-- how many they are
abbrev pub count : Trees → ℕ
count none = 0
count (more t ts) = suc (count ts)

abbrev pub pair_count : Pairs → ℕ
pair_count no_pair = 0
pair_count (pair k v ps) = suc (pair_count ps)

-- How deep arrays, maps and tags are nested in one another: an outermost array is one level.
abbrev mutual
  pub levels : Tree → ℕ
  levels (Unsigned n) = 0
  levels (Negative n) = 0
  levels (Bytes b) = 0
  levels (Text b) = 0
  levels (Array ts) = suc (levels_of_all ts)
  levels (Map ps) = suc (levels_of_pairs ps)
  levels (Tag n t) = suc (levels t)
  levels (Simple n) = 0
  levels (Float w n) = 0

  pub levels_of_all : Trees → ℕ
  levels_of_all none = 0
  levels_of_all (more t ts) = max (levels t) (levels_of_all ts)

  pub levels_of_pairs : Pairs → ℕ
  levels_of_pairs no_pair = 0
  levels_of_pairs (pair k v ps) = max (levels k) (max (levels v) (levels_of_pairs ps))

-- What a tree holds, where it is of the kind that is asked for.
abbrev pub uint_of : Tree → Option ℕ
uint_of (Unsigned n) = Some n
uint_of _ = None

abbrev pub int_of : Tree → Option ℤ
int_of (Unsigned n) = Some (pos n)
int_of (Negative n) = Some (negsuc n)
int_of _ = None

abbrev pub bytes_of : Tree → Option (List ℕ)
bytes_of (Bytes b) = Some b
bytes_of _ = None

abbrev pub text_of : Tree → Option (List ℕ)
text_of (Text b) = Some b
text_of _ = None

-- the simple values of RFC 8949, section 3.3, table 4
abbrev pub truth_of : ℕ → Option Bool
truth_of n = if n == 20 then Some false else (if n == 21 then Some true else None)

abbrev pub boolean_of : Tree → Option Bool
boolean_of (Simple n) = truth_of n
boolean_of _ = None

abbrev pub is_null : Tree → Bool
is_null (Simple n) = n == 22
is_null _ = false

-- the number of the tag, and the item under it
abbrev pub tag_of : Tree → Option (ℕ × Tree)
tag_of (Tag n t) = Some (n, t)
tag_of _ = None

abbrev pub items_of : Tree → Option (List Tree)
items_of (Array ts) = Some (listed ts)
items_of _ = None

abbrev pub pairs_of : Tree → Option (List (Tree × Tree))
pairs_of (Map ps) = Some (listed_pairs ps)
pairs_of _ = None
