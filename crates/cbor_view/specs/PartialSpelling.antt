-- How a partial item and the parts of an item stand in the bytes (RFC 8949, section 3): what is whole is
-- spelled, part after part, each at its place, up to the place of the fault.
use Rattle.std.specs.Prelude.{◌≡◌, ℕ, suc, ◌+◌, ◌^◌, ◌<◌, ◌≤◌, List, [], ◌∷◌, ◌++◌, length, flat_map, None}
use Rattle.cbor_view.specs.declared.cbor_kind.CborKind.{CborKind}
use Rattle.cbor_view.specs.Tree.{Tree, levels}
use Rattle.cbor_view.specs.Spelling.{IsHead, Spelled}
use Rattle.cbor_view.specs.Parts.{Part}
use Rattle.cbor_view.specs.PartialItem.{PartialItem, whole, in_array, in_map, in_value, in_tag, broken, whole_in}
use Rattle.cbor_view.specs.FirstFault.{IsWrong, rank}

-- `file` and `after` are the bytes from a place to the end, at their place; `inside` is the number of arrays,
-- maps and tags around.

-- The part stands first, it is one item of at most 32 levels with those around it, and `after` follows it.
pub record StandsFirst (inside : ℕ) (file p after : Part) : Type 0 where
  pub tree : Tree
  pub spelled : Spelled tree p.bytes
  pub nesting : inside + levels tree ≤ 32
  pub bytes : file.bytes ≡ p.bytes ++ after.bytes
  pub place : p.at ≡ file.at
  pub next : after.at ≡ file.at + length p.bytes

-- The part stands first, and others after it.
pub record FirstAndRow (inside : ℕ) (p : Part) (Others : Part → Type 0) (file : Part) : Type 0 where
  pub mid : Part
  pub first : StandsFirst inside file p mid
  pub others : Others mid

-- The parts stand first, one after the other, and `after` follows the last of them.
abbrev pub StandInRow : ℕ → List Part → Part → Part → Type 0
StandInRow inside [] after file = after ≡ file
StandInRow inside (p ∷ ps) after file = FirstAndRow inside p (StandInRow inside ps after) file

-- First stands a head of that major type with that argument, inside fewer than 32 others, after it the parts
-- one after the other, and what follows them is as `Next` says.
pub record HeadAndParts (inside major n : ℕ) (parts : List Part) (Next : Part → Type 0) (file : Part) : Type 0 where
  pub head : List ℕ
  pub body : Part
  pub after : Part
  pub spelled : IsHead major n head
  pub nesting : inside < 32
  pub bytes : file.bytes ≡ head ++ body.bytes
  pub place : body.at ≡ file.at + length head
  pub row : StandInRow (suc inside) parts after body
  pub next : Next after

-- the keys and values of pairs in their order
abbrev pub key_and_value : Part × Part → List Part
key_and_value e = e.0 ∷ (e.1 ∷ [])

abbrev pub keys_and_values : List (Part × Part) → List Part
keys_and_values entries = flat_map key_and_value entries

-- A map of so many pairs, of which some are whole.
pub record MapAndParts (inside : ℕ) (entries : List (Part × Part)) (parts : List Part) (Next : Part → Type 0) (file : Part) : Type 0 where
  pub n : ℕ
  pub limit : n < 2 ^ 32
  pub fewer : length entries < n
  pub stands : HeadAndParts inside 5 n parts Next file

-- Of what is wrong with the item that begins there, the kind is the one that counts first.
pub record IsFirstWrong (kind : CborKind) (inside : ℕ) (bytes : List ℕ) : Type 0 where
  pub wrong : IsWrong kind inside bytes
  pub first : (other : CborKind) → IsWrong other inside bytes → rank kind ≤ rank other

-- The item isn't whole.
abbrev pub IsUnfinished : PartialItem → Type 0
IsUnfinished item = whole_in item ≡ None

-- The partial item stands first. An array, a map or a tag that isn't whole has its head, fewer whole parts
-- than this announces, and one that isn't whole; a fault stands at its place, and its kind is
-- the first that is wrong there.
abbrev pub Stands : PartialItem → ℕ → Part → Type 0
Stands (whole p) inside file = (after : Part) × StandsFirst inside file p after
Stands (in_array at n items next) inside file = (at ≡ file.at) × (n < 2 ^ 32) × (length items < n) × IsUnfinished next × HeadAndParts inside 4 n items (Stands next (suc inside)) file
Stands (in_map at entries key) inside file = (at ≡ file.at) × IsUnfinished key × MapAndParts inside entries (keys_and_values entries) (Stands key (suc inside)) file
Stands (in_value at entries key value) inside file = (at ≡ file.at) × IsUnfinished value × MapAndParts inside entries (keys_and_values entries ++ (key ∷ [])) (Stands value (suc inside)) file
Stands (in_tag at n inner) inside file = (at ≡ file.at) × IsUnfinished inner × HeadAndParts inside 6 n [] (Stands inner (suc inside)) file
Stands (broken fault) inside file = (fault.at ≡ file.at) × IsFirstWrong fault.kind inside file.bytes

-- nothing follows
abbrev pub IsEnd : Part → Type 0
IsEnd after = after.bytes ≡ []

-- The item is a head of that major type with that argument and these parts, and nothing else.
abbrev pub IsMadeOf : ℕ → ℕ → List Part → Part → Type 0
IsMadeOf major n parts p = HeadAndParts 0 major n parts IsEnd p
