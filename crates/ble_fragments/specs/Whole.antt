-- The messages of a list of fragments, in any cut (ISO/IEC 18013-5, 8.3.3.1.1).
use Rattle.std.specs.Prelude.{Bool, true, false, ℕ, List, [], ◌∷◌, ◌++◌, length, map, nat_lt, ◌||◌, if◌then◌else◌}
use Rattle.std.specs.List.{concat}
use Rattle.mdoc_outside.specs.declared.fragment.Fragment.{Fragment}
use Rattle.ble_fragments.specs.declared.ending.Ending.{Ending}
use Rattle.ble_fragments.specs.declared.ending.Ending.TheVariants.{Open, Peer, Bad}
use Rattle.ble_fragments.specs.declared.join_fault.JoinFault.TheVariants.{TooLong}
use Rattle.ble_fragments.specs.Part.{Part, Piece, Start, Stop, Broken, part_of}

-- Pieces divided into groups, each with the pieces of one message up to its last one, and the rest,
-- in which no piece is the last one of its message.
pub record Division : Type 0 where
  pub groups : List (List (List ℕ))
  pub rest : List (List ℕ)

-- the last piece of a message is a group's end
abbrev pub ended_by : List ℕ → Division → Division
ended_by bytes later = record { groups = (bytes ∷ []) ∷ later.groups; rest = later.rest }

-- another piece belongs to the group of what comes after it, or to the rest where there is none
abbrev pub joined_by : List ℕ → List (List (List ℕ)) → List (List ℕ) → Division
joined_by bytes [] rest = record { groups = []; rest = bytes ∷ rest }
joined_by bytes (group ∷ groups) rest = record { groups = (bytes ∷ group) ∷ groups; rest = rest }

-- start and end of the session are in no group
abbrev pub divided : List Part → Division
divided [] = record { groups = []; rest = [] }
divided (Piece true bytes ∷ parts) = ended_by bytes (divided parts)
divided (Piece false bytes ∷ parts) = joined_by bytes (divided parts).groups (divided parts).rest
divided (Start ∷ parts) = divided parts
divided (Stop ∷ parts) = divided parts
divided (Broken fault ∷ parts) = divided parts

-- a group of more than 65,536 fragments, or of more than 1,048,576 bytes
unfoldable pub is_too_long : List (List ℕ) → Bool
is_too_long group = nat_lt 65536 (length group) || nat_lt 1048576 (length (concat group))

-- how a list of fragments ends at a part, where the rest of the pieces before it is this; open where
-- it goes on
abbrev pub ending_with : List (List ℕ) → Part → Ending
ending_with rest (Piece is_last bytes) = if is_too_long (rest ++ bytes ∷ []) then Bad TooLong else Open
ending_with rest Start = Open
ending_with rest Stop = Peer
ending_with rest (Broken fault) = Bad fault

-- The fragments before the first one that ends the list, and how it ends there.
pub record Front : Type 0 where
  pub fragments : List Fragment
  pub ending : Ending

abbrev pub front_at : List Fragment → Ending → Front → Front
front_at before Open later = later
front_at before Peer later = record { fragments = before; ending = Peer }
front_at before (Bad fault) later = record { fragments = before; ending = Bad fault }

-- the front of `before` and what comes after it, where `before` has no fragment that ends the list
abbrev pub front_from : List Fragment → List Fragment → Front
front_from before [] = record { fragments = before; ending = Open }
front_from before (fragment ∷ fragments) =
    front_at before
    (ending_with (divided (map part_of before)).rest (part_of fragment))
    (front_from (before ++ fragment ∷ []) fragments)

-- The messages, the pieces of the message that is not whole yet, and how the list ends.
pub record Whole : Type 0 where
  pub messages : List (List ℕ)
  pub rest : List (List ℕ)
  pub ending : Ending

abbrev pub whole_in : Division → Ending → Whole
whole_in division ending = record { messages = map concat division.groups; rest = division.rest; ending = ending }

unfoldable pub whole : List Fragment → Whole
whole fragments = let front = front_from [] fragments in whole_in (divided (map part_of front.fragments)) front.ending
