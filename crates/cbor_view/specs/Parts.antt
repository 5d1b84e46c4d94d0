-- The parts of an item that was read: each by the bytes that spell it and by its place in the bytes first
-- read. A tree has no bytes of its own, and two parts may be equal as trees and spelled apart.
use Rattle.std.specs.Prelude.{◌≡◌, ℕ, zero, suc, ◌+◌, ◌-◌, Bool, ◌==◌, if◌then◌else◌, List, [], ◌∷◌, length, take, drop, Option, Some, None, option_and_then, Result, Ok, Err, ◌++◌}
use Rattle.cbor_view.specs.declared.cbor_kind.CborKind.{CborKind}
use Rattle.cbor_view.specs.declared.cbor_fault.CborFault.{CborFault}
use Rattle.cbor_view.specs.declared.doubled.Doubled.{Doubled}
use Rattle.cbor_view.specs.declared.heads.Head.{Head}
use Rattle.cbor_view.specs.declared.heads.Head.TheVariants as heads
use Rattle.std.specs.List.{AllByRecursion}
use Rattle.cbor_view.specs.Tree.{Tree, uint_of, bytes_of, text_of, boolean_of, Trees, none, more, Pairs, no_pair, pair}
use Rattle.cbor_view.specs.Label.{Label, values_of, only_of, entries_or_none}
use Rattle.cbor_view.specs.Reading.{head_at, reads, tree_of, size}

pub record Part : Type 0 where
  pub at : ℕ
  pub bytes : List ℕ

-- the tree that a part's bytes spell
abbrev pub tree_in : Part → Tree
tree_in p = tree_of p.bytes

abbrev pub both_trees : Part × Part → Tree × Tree
both_trees e = (tree_in e.0, tree_in e.1)

-- several parts as trees
abbrev pub trees_of : List Part → Trees
trees_of [] = none
trees_of (p ∷ ps) = more (tree_in p) (trees_of ps)

abbrev pub pairs_from : List (Part × Part) → Pairs
pairs_from [] = no_pair
pairs_from (e ∷ es) = pair (tree_in e.0) (tree_in e.1) (pairs_from es)

-- The second part stands within the first: its bytes are there, after as many as its place says.
pub record LiesIn (all p : Part) : Type 0 where
  pub before : List ℕ
  pub after : List ℕ
  pub whole : all.bytes ≡ before ++ (p.bytes ++ after)
  pub place : p.at ≡ all.at + length before

abbrev pub BothLieIn : Part → Part × Part → Type 0
BothLieIn all e = LiesIn all e.0 × LiesIn all e.1

abbrev pub AllLieIn : Part → List Part → Type 0
AllLieIn all ps = AllByRecursion (LiesIn all) ps

abbrev pub PairsLieIn : Part → List (Part × Part) → Type 0
PairsLieIn all es = AllByRecursion (BothLieIn all) es

-- all of the bytes as one part, or their first fault
abbrev pub part_of : List ℕ → Result Tree CborFault → Result Part CborFault
part_of bytes (Ok t) = Ok (record { at = 0; bytes = bytes })
part_of bytes (Err e) = Err e

abbrev pub cbor : List ℕ → Result Part CborFault
cbor bytes = part_of bytes (reads bytes)

-- Items follow one another: the first of them, and the place and bytes of the others.
abbrev pub first_part : Part → Part
first_part p = record { at = p.at; bytes = take (size p.bytes) p.bytes }

abbrev pub after_first : Part → Part
after_first p = record { at = p.at + size p.bytes; bytes = drop (size p.bytes) p.bytes }

-- so many items, and so many pairs of a key and its value
unfoldable pub parts_at : ℕ → Part → List Part
parts_at zero p = []
parts_at (suc n) p = first_part p ∷ parts_at n (after_first p)

unfoldable pub entries_at : ℕ → Part → List (Part × Part)
entries_at zero p = []
entries_at (suc n) p = (first_part p, first_part (after_first p)) ∷ entries_at n (after_first (after_first p))

-- what follows the head, at its place
abbrev pub body_of : Part → List ℕ → Part
body_of p rest = record { at = p.at + (length p.bytes - length rest); bytes = rest }

abbrev pub array_after : Part → Result (Head × List ℕ) CborKind → Option (List Part)
array_after p (Ok (heads.Array n, rest)) = Some (parts_at n (body_of p rest))
array_after p _ = None

abbrev pub map_after : Part → Result (Head × List ℕ) CborKind → Option (List (Part × Part))
map_after p (Ok (heads.Map n, rest)) = Some (entries_at n (body_of p rest))
map_after p _ = None

abbrev pub tag_after : Part → Result (Head × List ℕ) CborKind → Option (ℕ × Part)
tag_after p (Ok (heads.Tag n, rest)) = Some (n, body_of p rest)
tag_after p _ = None

-- the items of an array, and the pairs of a map, in order; the number of a tag with what stands under it
abbrev pub items_in : Part → Option (List Part)
items_in p = array_after p (head_at p.bytes)

abbrev pub pairs_in : Part → Option (List (Part × Part))
pairs_in p = map_after p (head_at p.bytes)

abbrev pub tag_in : Part → Option (ℕ × Part)
tag_in p = tag_after p (head_at p.bytes)

-- what stands under a tag, where it is the tag of that number
abbrev pub under : ℕ → ℕ × Part → Option Part
under n tagged = if tagged.0 == n then Some tagged.1 else None

abbrev pub tagged : ℕ → Part → Option Part
tagged n p = option_and_then (under n) (tag_in p)

-- what a part holds, where it is of the kind that is asked for
abbrev pub uint_in : Part → Option ℕ
uint_in p = uint_of (tree_in p)

abbrev pub bytes_in : Part → Option (List ℕ)
bytes_in p = bytes_of (tree_in p)

abbrev pub text_in : Part → Option (List ℕ)
text_in p = text_of (tree_in p)

abbrev pub boolean_in : Part → Option Bool
boolean_in p = boolean_of (tree_in p)

-- The value under a key of a map: none where it isn't there or the part is no map.
abbrev pub entry_in : Label → Part → Result (Option Part) Doubled
entry_in label p = only_of (values_of tree_in label (entries_or_none (pairs_in p)))
