-- That a string which is read lies in the bytes that it was read from.
use Rattle.std.specs.Prelude.{◌≡◌, ℕ, ◌+◌, List, Option, Some}
use Rattle.cbor_view.specs.Parts.{LiesIn, Part, body_of}

-- A string and the item that it is read of, as bytes or as text: the item lies in others, and so does the string, which
-- is what follows the item's head, at its place (RFC 8949, section 3.1, major types 2 and 3).
pub record StringLies (read : Part → Option (List ℕ)) (all item : Part) (string : List ℕ) : Type 0 where
  pub item_stands_in_bytes : LiesIn all item
  pub content : read item ≡ Some string
  pub string_lies : LiesIn all (body_of item string)

-- all of the bytes
abbrev pub whole_part : List ℕ → Part
whole_part bytes = record { at = 0; bytes = bytes }

-- A part of the item that a string spells, read from the string's front on: its place where the string stands.
abbrev pub in_string : Part → Part → Part
in_string string part = record { at = string.at + part.at; bytes = part.bytes }
