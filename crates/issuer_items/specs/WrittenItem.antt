-- Issuer-signed items as they are written (ISO/IEC 18013-5, 8.3.2.1.2.2): the keys in the order of their table,
-- every head as short as it can be.
use Rattle.std.specs.Prelude.{ℕ, ◌<◌, ◌^◌, List, [], ◌∷◌, length, Some, IsUtf8}
use Rattle.mdoc_outside.specs.declared.key_name.KeyName.TheVariants as keys
use Rattle.cbor_view.specs.Shortest.{bytes_bytes, text_bytes, uint_bytes}
use Rattle.cbor_maps.specs.Writing.{named_map, encoded_bytes}
use Rattle.cbor_maps.specs.WrittenReads.{SpellsItem}
use Rattle.issuer_items.specs.Item.{Item}

-- the map IssuerSignedItem
unfoldable pub item_map : Item → List ℕ
item_map it = named_map ((keys.DigestId, Some (uint_bytes it.digest_id)) ∷ (keys.Random, Some (bytes_bytes it.random)) ∷ (keys.ElementIdentifier, Some (text_bytes it.name)) ∷ (keys.ElementValue, Some it.value) ∷ [])

-- IssuerSignedItemBytes: tag 24 over the bytes of the map
abbrev pub item_bytes : Item → List ℕ
item_bytes it = encoded_bytes (item_map it)

-- What can be written: a number of 8 bytes, strings of less than 2 ^ 32 bytes, a text, and a value of at
-- most 31 levels.
pub record IsWritable (it : Item) : Type 0 where
  pub digest_id : it.digest_id < 2 ^ 64
  pub random : length it.random < 2 ^ 32
  pub name : length it.name < 2 ^ 32
  pub text : IsUtf8 it.name
  pub value : SpellsItem 31 it.value
  pub short : length (item_map it) < 2 ^ 32
