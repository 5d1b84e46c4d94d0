-- Which bytes spell which tree (RFC 8949, section 3), in this profile: lengths and counts below 2 ^ 32,
-- text that is UTF-8, no indefinite lengths, at most 32 levels. A head may be longer than needed.
use Rattle.std.specs.Prelude.{◌≡◌, ℕ, ◌+◌, ◌*◌, ◌^◌, ◌<◌, ◌≤◌, ◌⊎◌, List, [], ◌∷◌, ◌++◌, length, slice_index, IsUtf8}
use Rattle.std.specs.Int.{w8, w16, w32, w64, to_be_bytes}
use Rattle.cbor_view.specs.Tree.{Tree, Unsigned, Negative, Bytes, Text, Array, Map, Tag, Simple, Float, Trees, none, more, Pairs, no_pair, pair, count, pair_count, levels}

-- A head holds its argument in its first byte, or in 1, 2, 4 or 8 bytes after it (section 3).
pub data Form : Type 0 where
  Within : Form
  One : Form
  Two : Form
  Four : Form
  Eight : Form

-- the arguments that the form holds are those below this
abbrev pub limit : Form → ℕ
limit Within = 24
limit One = 2 ^ 8
limit Two = 2 ^ 16
limit Four = 2 ^ 32
limit Eight = 2 ^ 64

-- the lowest five bits of the first byte
abbrev pub information : Form → ℕ → ℕ
information Within n = n
information One n = 24
information Two n = 25
information Four n = 26
information Eight n = 27

abbrev pub argument : Form → ℕ → List ℕ
argument Within n = []
argument One n = to_be_bytes w8 n
argument Two n = to_be_bytes w16 n
argument Four n = to_be_bytes w32 n
argument Eight n = to_be_bytes w64 n

-- the head of a major type with an argument
abbrev pub head : Form → ℕ → ℕ → List ℕ
head form major n = (32 * major + information form n) ∷ argument form n

-- The bytes are a head of that major type with that argument, in a form that holds it.
pub record IsHead (major n : ℕ) (bytes : List ℕ) : Type 0 where
  pub form : Form
  pub holds : n < limit form
  pub spelled : bytes ≡ head form major n

-- A simple value below 24 stands in the first byte, one from 32 in a second byte (section 3.3).
abbrev pub IsSimple : ℕ → List ℕ → Type 0
IsSimple n bytes = ((n < 24) × (bytes ≡ head Within 7 n)) ⊎ ((32 ≤ n) × (n < 2 ^ 8) × (bytes ≡ head One 7 n))

-- a float of 2, 4 or 8 bytes (section 3.3)
abbrev pub IsFloat : ℕ → ℕ → List ℕ → Type 0
IsFloat width n bytes = ((width ≡ 2) × (n < 2 ^ 16) × (bytes ≡ head Two 7 n)) ⊎ ((width ≡ 4) × (n < 2 ^ 32) × (bytes ≡ head Four 7 n)) ⊎ ((width ≡ 8) × (n < 2 ^ 64) × (bytes ≡ head Eight 7 n))

-- The bytes are a first part and then a second.
pub record InOrder (First Second : List ℕ → Type 0) (bytes : List ℕ) : Type 0 where
  pub front : List ℕ
  pub rest : List ℕ
  pub first : First front
  pub second : Second rest
  pub whole : bytes ≡ front ++ rest

abbrev pub Is : List ℕ → List ℕ → Type 0
Is b bytes = bytes ≡ b

-- The bytes are the head of the tree's major type, and then its body: the string, or its parts in order.
abbrev mutual
  pub Spelled : Tree → List ℕ → Type 0
  Spelled (Unsigned n) bytes = IsHead 0 n bytes
  Spelled (Negative n) bytes = IsHead 1 n bytes
  Spelled (Bytes b) bytes = (length b < 2 ^ 32) × InOrder (IsHead 2 (length b)) (Is b) bytes
  Spelled (Text b) bytes = (length b < 2 ^ 32) × IsUtf8 b × InOrder (IsHead 3 (length b)) (Is b) bytes
  Spelled (Array ts) bytes = (count ts < 2 ^ 32) × InOrder (IsHead 4 (count ts)) (AllSpelled ts) bytes
  Spelled (Map ps) bytes = (pair_count ps < 2 ^ 32) × InOrder (IsHead 5 (pair_count ps)) (PairsSpelled ps) bytes
  Spelled (Tag n t) bytes = InOrder (IsHead 6 n) (Spelled t) bytes
  Spelled (Simple n) bytes = IsSimple n bytes
  Spelled (Float w n) bytes = IsFloat w n bytes

  pub AllSpelled : Trees → List ℕ → Type 0
  AllSpelled none bytes = bytes ≡ []
  AllSpelled (more t ts) bytes = InOrder (Spelled t) (AllSpelled ts) bytes

  pub PairsSpelled : Pairs → List ℕ → Type 0
  PairsSpelled no_pair bytes = bytes ≡ []
  PairsSpelled (pair k v ps) bytes = InOrder (Spelled k) (InOrder (Spelled v) (PairsSpelled ps)) bytes

-- The bytes are one item of the profile, and the tree is that item.
pub record Spells (bytes : List ℕ) (tree : Tree) : Type 0 where
  pub spelled : Spelled tree bytes
  pub nesting : levels tree ≤ 32

-- The bytes are no item of the profile.
abbrev pub SpellsNone : List ℕ → Type 0
SpellsNone bytes = (t : Tree) → Spells bytes t → ⊥

-- each number of the list is a byte
abbrev pub AreBytes : List ℕ → Type 0
AreBytes bytes = (i : ℕ) → slice_index bytes i < 256

-- What has a spelling, of whatever depth: arguments of at most 8 bytes, and the limits of the profile.
abbrev mutual
  pub Fits : Tree → Type 0
  Fits (Unsigned n) = n < 2 ^ 64
  Fits (Negative n) = n < 2 ^ 64
  Fits (Bytes b) = length b < 2 ^ 32
  Fits (Text b) = (length b < 2 ^ 32) × IsUtf8 b
  Fits (Array ts) = (count ts < 2 ^ 32) × AllFit ts
  Fits (Map ps) = (pair_count ps < 2 ^ 32) × PairsFit ps
  Fits (Tag n t) = (n < 2 ^ 64) × Fits t
  Fits (Simple n) = (n < 24) ⊎ ((32 ≤ n) × (n < 2 ^ 8))
  Fits (Float width n) = ((width ≡ 2) × (n < 2 ^ 16)) ⊎ ((width ≡ 4) × (n < 2 ^ 32)) ⊎ ((width ≡ 8) × (n < 2 ^ 64))

  pub AllFit : Trees → Type 0
  AllFit none = Unit {0}
  AllFit (more t ts) = Fits t × AllFit ts

  pub PairsFit : Pairs → Type 0
  PairsFit no_pair = Unit {0}
  PairsFit (pair k v ps) = Fits k × Fits v × PairsFit ps
