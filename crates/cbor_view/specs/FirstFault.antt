-- What is wrong with bytes that are not one item (RFC 8949, section 3, in the profile of `Spelling`): each
-- fault by its kind and its place, and which of them is the first.
use Rattle.std.specs.Prelude.{◌≡◌, ℕ, zero, suc, ◌+◌, ◌*◌, ◌^◌, ◌<◌, ◌≤◌, ◌⊎◌, List, [], ◌∷◌, ◌++◌, length, IsUtf8}
use Rattle.cbor_view.specs.declared.cbor_kind.CborKind.{CborKind}
use Rattle.cbor_view.specs.declared.cbor_kind.CborKind.TheVariants.{Truncated, Reserved, Chunked, Indefinite, Length, Deep, BadText, Trailing}
use Rattle.cbor_view.specs.declared.cbor_fault.CborFault.{CborFault}
use Rattle.cbor_view.specs.Tree.{Tree, Trees, count, levels_of_all}
use Rattle.cbor_view.specs.Spelling.{One, head, IsHead, InOrder, Is, AllSpelled, Spells}

-- ---- where an item is due

-- The bytes are the head of an array, a map or a tag after which so many items stand: those of the array,
-- two for each pair of the map, one under the tag.
pub data Announces (n : ℕ) (bytes : List ℕ) : Type 0 where
  items : n < 2 ^ 32 → IsHead 4 n bytes → Announces n bytes
  pairs : (m : ℕ) → m < 2 ^ 32 → n ≡ 2 * m → IsHead 5 m bytes → Announces n bytes
  tagged : (number : ℕ) → n ≡ 1 → IsHead 6 number bytes → Announces n bytes

-- The bytes are such a head and the first of its items, each whole, and at least one more is due. It stands
-- inside so many arrays, maps and tags, and no part of it is deeper than 32 levels.
pub record Begun (inside : ℕ) (bytes : List ℕ) : Type 0 where
  pub announced : ℕ
  pub there : Trees
  pub spelled : InOrder (Announces announced) (AllSpelled there) bytes
  pub fewer : count there < announced
  pub nesting : suc inside + levels_of_all there ≤ 32

-- An item is due after the bytes, inside so many arrays, maps and tags, and nothing in them is wrong: they
-- are these arrays, maps and tags one inside the other, each as far as it goes.
abbrev pub Due : ℕ → List ℕ → Type 0
Due zero before = before ≡ []
Due (suc inside) before = InOrder (Due inside) (Begun inside) before

-- ---- what can be wrong there, by the bytes from that place on

-- anything may follow
abbrev pub Any : List ℕ → Type 0
Any bytes = Unit {0}

abbrev pub StartsWith : List ℕ → List ℕ → Type 0
StartsWith front bytes = InOrder (Is front) Any bytes

abbrev pub StartsWithHead : ℕ → ℕ → List ℕ → Type 0
StartsWithHead major n bytes = InOrder (IsHead major n) Any bytes

-- the first byte of a head, by its major type and its additional information (section 3)
abbrev pub first_byte : ℕ → ℕ → List ℕ
first_byte major information = (32 * major + information) ∷ []

-- The bytes end within a head: there is one that goes on after them. So it is where no byte is left.
pub record EndsInHead (bytes : List ℕ) : Type 0 where
  pub major : ℕ
  pub n : ℕ
  pub more : List ℕ
  pub known : major < 8
  pub head : IsHead major n (bytes ++ more)
  pub lacking : 0 < length more

abbrev pub Fewer : ℕ → List ℕ → Type 0
Fewer n body = length body < n

-- strings are of bytes (major type 2) or of text (major type 3)
abbrev pub IsString : ℕ → Type 0
IsString major = (major ≡ 2) ⊎ (major ≡ 3)

-- The bytes end within a string.
pub record EndsInString (bytes : List ℕ) : Type 0 where
  pub major : ℕ
  pub n : ℕ
  pub string : IsString major
  pub spelled : InOrder (IsHead major n) (Fewer n) bytes

-- Additional information that no item has: 28 to 30, or 31 on a number, a tag or a simple value, where it
-- would be a break outside an indefinite length; or a simple value below 32 in two bytes (section 3.3).
pub data IsReserved (bytes : List ℕ) : Type 0 where
  unassigned : (major information : ℕ) → major < 8 → 28 ≤ information → information ≤ 30 → StartsWith (first_byte major information) bytes → IsReserved bytes
  endless : (major : ℕ) → (major ≡ 0) ⊎ (major ≡ 1) ⊎ (major ≡ 6) ⊎ (major ≡ 7) → StartsWith (first_byte major 31) bytes → IsReserved bytes
  simple : (n : ℕ) → n < 32 → StartsWith (head One 7 n) bytes → IsReserved bytes

-- a length or a count from 2 ^ 32 on: of a string, an array (major type 4) or a map (major type 5)
pub record IsTooLong (bytes : List ℕ) : Type 0 where
  pub major : ℕ
  pub n : ℕ
  pub counts : IsString major ⊎ (major ≡ 4) ⊎ (major ≡ 5)
  pub large : 2 ^ 32 ≤ n
  pub spelled : StartsWithHead major n bytes

-- an array, a map or a tag (major type 6) inside 32 others
pub record IsTooDeep (inside : ℕ) (bytes : List ℕ) : Type 0 where
  pub major : ℕ
  pub n : ℕ
  pub nests : (major ≡ 4) ⊎ (major ≡ 5) ⊎ (major ≡ 6)
  pub full : inside ≡ 32
  pub spelled : StartsWithHead major n bytes

-- a text that is there and isn't UTF-8 (section 3.1)
pub record IsBadText (bytes : List ℕ) : Type 0 where
  pub text : List ℕ
  pub spelled : InOrder (IsHead 3 (length text)) (StartsWith text) bytes
  pub bad : IsUtf8 text → ⊥

-- The item that begins here, inside so many arrays, maps and tags, has a fault of that kind of its own.
abbrev pub IsWrong : CborKind → ℕ → List ℕ → Type 0
IsWrong Truncated inside bytes = EndsInHead bytes ⊎ EndsInString bytes
IsWrong Reserved inside bytes = IsReserved bytes
IsWrong Chunked inside bytes = StartsWith (first_byte 2 31) bytes ⊎ StartsWith (first_byte 3 31) bytes
IsWrong Indefinite inside bytes = StartsWith (first_byte 4 31) bytes ⊎ StartsWith (first_byte 5 31) bytes
IsWrong Length inside bytes = IsTooLong bytes
IsWrong Deep inside bytes = IsTooDeep inside bytes
IsWrong BadText inside bytes = IsBadText bytes
IsWrong Trailing inside bytes = ⊥

-- ---- the faults of bytes

-- An item is due after the first bytes, and what stands after them is wrong.
pub record WrongItem (kind : CborKind) (before rest : List ℕ) : Type 0 where
  pub inside : ℕ
  pub due : Due inside before
  pub wrong : IsWrong kind inside rest

-- The first bytes are the whole item, and more stand after them.
pub record GoesOn (before rest : List ℕ) : Type 0 where
  pub tree : Tree
  pub item : Spells before tree
  pub more : 0 < length rest

abbrev pub WrongAfter : CborKind → List ℕ → List ℕ → Type 0
WrongAfter Trailing before rest = GoesOn before rest
WrongAfter kind before rest = WrongItem kind before rest

-- The fault is one of the bytes: its place parts them, and what stands there is wrong in that way.
pub record HasFault (bytes : List ℕ) (fault : CborFault) : Type 0 where
  pub before : List ℕ
  pub rest : List ℕ
  pub whole : bytes ≡ before ++ rest
  pub place : fault.at ≡ length before
  pub wrong : WrongAfter fault.kind before rest

-- The kinds in the order in which they count at one place.
abbrev pub rank : CborKind → ℕ
rank Truncated = 0
rank Reserved = 1
rank Chunked = 2
rank Indefinite = 3
rank Length = 4
rank Deep = 5
rank BadText = 6
rank Trailing = 7

-- The fault is one of the bytes; each of them stands at its place or later, and none of them at its place is
-- of a kind that counts before its own.
pub record IsFirstFault (bytes : List ℕ) (fault : CborFault) : Type 0 where
  pub has : HasFault bytes fault
  pub least : (other : CborFault) → HasFault bytes other → fault.at ≤ other.at
  pub first : (other : CborFault) → HasFault bytes other → other.at ≡ fault.at → rank fault.kind ≤ rank other.kind

-- The bytes have no fault.
abbrev pub IsFaultless : List ℕ → Type 0
IsFaultless bytes = (fault : CborFault) → HasFault bytes fault → ⊥

-- The bytes are one item.
pub record IsItem (bytes : List ℕ) : Type 0 where
  pub tree : Tree
  pub spells : Spells bytes tree
