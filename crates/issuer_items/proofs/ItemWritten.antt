-- An item that was written is read as it was given.
use Rattle.std.proofs.Common.{◌≡◌, ℕ, ◌<◌, ◌≤◌, IsOk, get_or, List, [], ◌∷◌, Some, Ok, refl, arith}
use Rattle.mdoc_outside.specs.declared.key_name.KeyName.TheVariants as keys
use Rattle.cbor_view.specs.Parts.{Part}
use Rattle.cbor_view.specs.Shortest.{bytes_bytes, text_bytes, uint_bytes}
use Rattle.cbor_view.specs.Tree.{Tree, Unsigned, Bytes, Text, levels}
use Rattle.cbor_view.specs.Reading.{reads, tree_of}
use Rattle.cbor_view.proofs.Splitting.{is-read}
use Rattle.cbor_view.proofs.WholeReading.{reads-spells}
use Rattle.cbor_view.proofs.WrittenParts.{IsPiece, piece-deeper, piece-shortest, cbor-piece, tree-shortest}
use Rattle.cbor_maps.specs.Writing.{Fields, with_values}
use Rattle.cbor_maps.specs.WrittenReads.{SpellsItem, AreItems}
use Rattle.cbor_maps.proofs.WrittenMaps.{IsUnder, under, piece-named, piece-encoded, encoded-again}
use Rattle.issuer_items.specs.Item.{Item, item, item_of_map}
use Rattle.issuer_items.specs.WrittenItem.{item_map, item_bytes, IsWritable}

abbrev fields_of : Item → Fields
fields_of it = (keys.DigestId, Some (uint_bytes it.digest_id)) ∷ (keys.Random, Some (bytes_bytes it.random)) ∷ (keys.ElementIdentifier, Some (text_bytes it.name)) ∷ (keys.ElementValue, Some it.value) ∷ []

spelled : (t : Tree) (bytes : List ℕ) → IsPiece 0 bytes → SpellsItem 31 bytes
spelled t bytes p = let n = p.nesting in record { item = p.item; spells = record { spelled = p.spelled; nesting = omega arith }; nesting = omega arith }

are-items : (it : Item) → IsWritable it → AreItems (with_values (fields_of it))
are-items it is = (
  spelled (Unsigned it.digest_id) (uint_bytes it.digest_id) (piece-shortest 0 (Unsigned it.digest_id) is.digest_id (omega arith)),
  (
    spelled (Bytes it.random) (bytes_bytes it.random) (piece-shortest 0 (Bytes it.random) is.random (omega arith)),
    (
      spelled (Text it.name) (text_bytes it.name) (piece-shortest 0 (Text it.name) (is.name, is.text) (omega arith)),
      (is.value, tt),
    ),
  ),
)

-- what is under each name of the map
abbrev map_at : Item → Part
map_at it = record { at = 0; bytes = item_map it }

id-under : (it : Item) → IsWritable it → IsUnder (map_at it) keys.DigestId (uint_bytes it.digest_id)
unfolding item_map
id-under it is = under 0 (fields_of it) keys.DigestId (uint_bytes it.digest_id) (are-items it is) (omega arith) refl

random-under : (it : Item) → IsWritable it → IsUnder (map_at it) keys.Random (bytes_bytes it.random)
unfolding item_map
random-under it is = under 0 (fields_of it) keys.Random (bytes_bytes it.random) (are-items it is) (omega arith) refl

name-under : (it : Item) → IsWritable it → IsUnder (map_at it) keys.ElementIdentifier (text_bytes it.name)
unfolding item_map
name-under it is = under 0 (fields_of it) keys.ElementIdentifier (text_bytes it.name) (are-items it is) (omega arith) refl

value-under : (it : Item) → IsWritable it → IsUnder (map_at it) keys.ElementValue it.value
unfolding item_map
value-under it is = under 0 (fields_of it) keys.ElementValue it.value (are-items it is) (omega arith) refl

piece-of-map : (it : Item) → IsWritable it → IsPiece 32 (item_map it)
unfolding item_map
piece-of-map it is = piece-named (fields_of it) (are-items it is) (omega arith)

map-again : (it : Item) → IsWritable it → item_of_map (map_at it) ≡ Ok it
map-again it is =
    let d = id-under it is in
    let r = random-under it is in
    let n = name-under it is in
    let v = value-under it is in
    rw (d.is, r.is, n.is, v.is)
    (rw (tree-shortest (Unsigned it.digest_id) is.digest_id (omega arith), tree-shortest (Bytes it.random) is.random (omega arith), tree-shortest (Text it.name) (is.name, is.text) (omega arith)) refl)

pub item-written : (it : Item) → IsWritable it → item (item_bytes it) ≡ Ok it
unfolding item
item-written it is =
    rw (cbor-piece (item_bytes it) (piece-deeper 1 32 (item_bytes it) (omega arith) (piece-encoded (item_map it) is.short)))
    (rw (encoded-again 0 (item_map it) is.short)
    (rw (cbor-piece (item_map it) (piece-of-map it is))
    (rw (map-again it is) refl)))

-- the bytes of a view that has at most 31 levels
pub item-of-view : (bytes : List ℕ) → ((i : ℕ) → get_or bytes i 0 < 256) → IsOk (reads bytes) → levels (tree_of bytes) ≤ 31 → SpellsItem 31 bytes
item-of-view bytes each ok nesting = record { item = tree_of bytes; spells = reads-spells bytes (tree_of bytes) (record { each = each }) (is-read bytes ok); nesting = nesting }
