-- One more fragment at the end of a list (ISO/IEC 18013-5, 8.3.3.1.1).
use Rattle.std.specs.Prelude.{◌≡◌, Bool, true, false, ℕ, List, [], ◌∷◌, ◌++◌, if◌then◌else◌}
use Rattle.std.specs.List.{concat}
use Rattle.mdoc_outside.specs.declared.fragment.Fragment.{Fragment}
use Rattle.ble_fragments.specs.declared.ending.Ending.{Ending}
use Rattle.ble_fragments.specs.declared.ending.Ending.TheVariants.{Open, Peer, Bad}
use Rattle.ble_fragments.specs.declared.join_fault.JoinFault.TheVariants.{TooLong}
use Rattle.ble_fragments.specs.Part.{Part, Piece, Start, Stop, Broken, part_of}
use Rattle.ble_fragments.specs.Whole.{Whole, whole, is_too_long}

abbrev pub ended_at : Whole → Ending → Whole
ended_at of ending = record { messages = of.messages; rest = of.rest; ending = ending }

abbrev pub next_piece : Bool → Whole → List ℕ → Whole
next_piece true of bytes = record { messages = of.messages ++ concat (of.rest ++ bytes ∷ []) ∷ []; rest = []; ending = Open }
next_piece false of bytes = record { messages = of.messages; rest = of.rest ++ bytes ∷ []; ending = Open }

abbrev pub next_open : Whole → Part → Whole
next_open of (Piece is_last bytes) = if is_too_long (of.rest ++ bytes ∷ []) then ended_at of (Bad TooLong) else next_piece is_last of bytes
next_open of Start = of
next_open of Stop = ended_at of Peer
next_open of (Broken fault) = ended_at of (Bad fault)

abbrev pub next_by : Ending → Whole → Part → Whole
next_by Open of part = next_open of part
next_by Peer of part = of
next_by (Bad fault) of part = of

-- what the list comes to with a further fragment that is this part
abbrev pub next : Whole → Part → Whole
next of part = next_by of.ending of part

-- and with these fragments, one after the other
abbrev pub continued : Whole → List Fragment → Whole
continued of [] = of
continued of (fragment ∷ fragments) = continued (next of (part_of fragment)) fragments

-- Two lists one after the other come to what the first comes to, continued by the second: of the
-- first nothing counts but its messages, the rest and the end.
abbrev pub ContinuesWhole : Type 0
ContinuesWhole = (came more : List Fragment) → whole (came ++ more) ≡ continued (whole came) more
