-- Maps of named keys, of so many levels, and what may be under their keys.
use Rattle.std.proofs.Common.{◌≡◌, ℕ, ◌+◌, ◌<◌, ◌≤◌, ◌^◌, true, List, length, Option, Some, None, Ok, ap, arith}
use Rattle.std.specs.Prelude.{option_map}
use Rattle.mdoc_outside.specs.declared.key_name.KeyName.{KeyName}
use Rattle.mdoc_outside.specs.KeyName.{key_text}
use Rattle.cbor_view.specs.Label.{only_of}
use Rattle.cbor_view.specs.Parts.{Part, pairs_in}
use Rattle.cbor_view.specs.Tree.{Text}
use Rattle.cbor_view.proofs.WrittenParts.{ArePieces, IsPiece, entries_from, pairs_begin, pairs-written, piece-map, piece-shortest}
use Rattle.cbor_maps.specs.Reading.{entry, map_in}
use Rattle.cbor_maps.specs.Writing.{Fields, key_bytes, named_map, spelled_keys, with_values}
use Rattle.cbor_maps.specs.WrittenReads.{AreItems, SpellsItem, values_named}
use Rattle.cbor_maps.proofs.WrittenMaps.{IsUnder, is_ascii, named-map, under, under-none, utf8-ascii}

pub key-piece : (d : ℕ) (name : KeyName) → length (key_text name) < 2 ^ 32 → is_ascii (key_text name) ≡ true → IsPiece d (key_bytes name)
unfolding key_bytes
key-piece d name short ascii = piece-shortest d (Text (key_text name)) (short, utf8-ascii (key_text name) ascii) (omega arith)

-- a value of at most 31 levels
pub item : (d : ℕ) (bytes : List ℕ) → d ≤ 31 → IsPiece d bytes → SpellsItem 31 bytes
item d bytes few p = let n = p.nesting in record { item = p.item; spells = record { spelled = p.spelled; nesting = omega arith }; nesting = omega arith }

pub piece-of : (d : ℕ) (bytes : List ℕ) → SpellsItem d bytes → IsPiece d bytes
piece-of d bytes s = record { item = s.item; spelled = s.spells.spelled; nesting = s.nesting }

pub named-piece : (d : ℕ) (fields : Fields) → ArePieces d (spelled_keys (with_values fields)) → length (spelled_keys (with_values fields)) < 2 ^ 32 → IsPiece (d + 1) (named_map fields)
named-piece d fields are few = rw (named-map fields) (piece-map d (spelled_keys (with_values fields)) are few)

pub named-pairs : (d at : ℕ) (fields : Fields) → ArePieces d (spelled_keys (with_values fields)) → d ≤ 32 → length (spelled_keys (with_values fields)) < 2 ^ 32 →
    pairs_in (record { at = at; bytes = named_map fields }) ≡ Some (entries_from (pairs_begin at (spelled_keys (with_values fields))) (spelled_keys (with_values fields)))
named-pairs d at fields are low few = rw (named-map fields) (pairs-written d (spelled_keys (with_values fields)) at are low few)

pub named-is-map : (d at : ℕ) (fields : Fields) → ArePieces d (spelled_keys (with_values fields)) → d ≤ 32 → length (spelled_keys (with_values fields)) < 2 ^ 32 →
    map_in (record { at = at; bytes = named_map fields }) ≡ Some (record { at = at; bytes = named_map fields })
named-is-map d at fields are low few = ap (option_map (λ (entries : List (Part × Part)). record { at = at; bytes = named_map fields })) (named-pairs d at fields are low few)

-- the value under a key that may have none
abbrev pub MayHave : Part → KeyName → Option (List ℕ) → Type 0
MayHave map name None = entry map name ≡ Ok None
MayHave map name (Some value) = IsUnder map name value

pub may-have : (at : ℕ) (fields : Fields) (name : KeyName) (value : Option (List ℕ)) → AreItems (with_values fields) → length (with_values fields) < 2 ^ 32 →
    only_of (values_named name (with_values fields)) ≡ Ok value → MayHave (record { at = at; bytes = named_map fields }) name value
may-have at fields name None are few is = under-none at fields name are few is
may-have at fields name (Some value) are few is = under at fields name value are few is
