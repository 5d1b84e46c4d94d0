-- SessionData that was written is read as it was given.
use Rattle.std.proofs.Common.{◌≡◌, ℕ, ◌<◌, ◌^◌, List, [], ◌∷◌, length, Option, Some, None, Ok, option_map, refl, arith}
use Rattle.mdoc_outside.specs.declared.key_name.KeyName.TheVariants as names
use Rattle.cbor_view.specs.Parts.{Part}
use Rattle.cbor_view.specs.Shortest.{bytes_bytes, uint_bytes}
use Rattle.cbor_view.specs.Tree.{Bytes, Unsigned}
use Rattle.cbor_view.proofs.WrittenParts.{IsPiece, piece-shortest, cbor-piece, tree-shortest}
use Rattle.cbor_maps.specs.Reading.{entry}
use Rattle.cbor_maps.specs.Writing.{Fields, with_values}
use Rattle.cbor_maps.specs.WrittenReads.{SpellsItem, AreItems}
use Rattle.cbor_maps.proofs.WrittenMaps.{IsUnder, under, under-none, piece-named}
use Rattle.session_seal.specs.Laws.{DataIsRead, IsWritable}
use Rattle.session_seal.specs.Messages.{SessionData, session_data}
use Rattle.session_seal.specs.WrittenMessages.{session_data_bytes}

item_of : (bytes : List ℕ) → IsPiece 0 bytes → SpellsItem 31 bytes
item_of bytes p = let n = p.nesting in record { item = p.item; spells = record { spelled = p.spelled; nesting = omega arith }; nesting = omega arith }

pub bytes-item : (b : List ℕ) → length b < 2 ^ 32 → SpellsItem 31 (bytes_bytes b)
bytes-item b short = item_of (bytes_bytes b) (piece-shortest 0 (Bytes b) short (omega arith))

uint-item : (n : ℕ) → n < 2 ^ 64 → SpellsItem 31 (uint_bytes n)
uint-item n small = item_of (uint_bytes n) (piece-shortest 0 (Unsigned n) small (omega arith))

abbrev fields_of : SessionData → Fields
fields_of m = (names.Data, option_map bytes_bytes m.sealed) ∷ (names.Status, option_map uint_bytes m.status) ∷ []

abbrev map_at : SessionData → Part
map_at m = record { at = 0; bytes = session_data_bytes m }

piece : (m : SessionData) → AreItems (with_values (fields_of m)) → length (with_values (fields_of m)) < 2 ^ 32 → IsPiece 32 (session_data_bytes m)
unfolding session_data_bytes
piece m are few = piece-named (fields_of m) are few

-- a sealed text alone
abbrev text_alone : List ℕ → SessionData
text_alone b = record { sealed = Some b; status = None }

alone-text : (b : List ℕ) → length b < 2 ^ 32 → IsUnder (map_at (text_alone b)) names.Data (bytes_bytes b)
unfolding session_data_bytes
alone-text b short = under 0 (fields_of (text_alone b)) names.Data (bytes_bytes b) (bytes-item b short, tt) (omega arith) refl

alone-no_status : (b : List ℕ) → length b < 2 ^ 32 → entry (map_at (text_alone b)) names.Status ≡ Ok None
unfolding session_data_bytes
alone-no_status b short = under-none 0 (fields_of (text_alone b)) names.Status (bytes-item b short, tt) (omega arith) refl

text-read : (b : List ℕ) → length b < 2 ^ 32 → session_data (session_data_bytes (text_alone b)) ≡ Some (text_alone b)
unfolding session_data
text-read b short =
    let d = alone-text b short in
    rw (cbor-piece (session_data_bytes (text_alone b)) (piece (text_alone b) (bytes-item b short, tt) (omega arith)))
    (rw (d.is, alone-no_status b short) (rw (tree-shortest (Bytes b) short (omega arith)) refl))

-- a status alone
abbrev status_alone : ℕ → SessionData
status_alone n = record { sealed = None; status = Some n }

status-under : (n : ℕ) → n < 2 ^ 64 → IsUnder (map_at (status_alone n)) names.Status (uint_bytes n)
unfolding session_data_bytes
status-under n small = under 0 (fields_of (status_alone n)) names.Status (uint_bytes n) (uint-item n small, tt) (omega arith) refl

status-no_text : (n : ℕ) → n < 2 ^ 64 → entry (map_at (status_alone n)) names.Data ≡ Ok None
unfolding session_data_bytes
status-no_text n small = under-none 0 (fields_of (status_alone n)) names.Data (uint-item n small, tt) (omega arith) refl

status-read : (n : ℕ) → n < 2 ^ 64 → session_data (session_data_bytes (status_alone n)) ≡ Some (status_alone n)
unfolding session_data
status-read n small =
    let s = status-under n small in
    rw (cbor-piece (session_data_bytes (status_alone n)) (piece (status_alone n) (uint-item n small, tt) (omega arith)))
    (rw (status-no_text n small, s.is) (rw (tree-shortest (Unsigned n) small (omega arith)) refl))

-- both
abbrev text_and_status : List ℕ → ℕ → SessionData
text_and_status b n = record { sealed = Some b; status = Some n }

both-text : (b : List ℕ) (n : ℕ) → length b < 2 ^ 32 → n < 2 ^ 64 → IsUnder (map_at (text_and_status b n)) names.Data (bytes_bytes b)
unfolding session_data_bytes
both-text b n short small = under 0 (fields_of (text_and_status b n)) names.Data (bytes_bytes b) (bytes-item b short, (uint-item n small, tt)) (omega arith) refl

both-status : (b : List ℕ) (n : ℕ) → length b < 2 ^ 32 → n < 2 ^ 64 → IsUnder (map_at (text_and_status b n)) names.Status (uint_bytes n)
unfolding session_data_bytes
both-status b n short small = under 0 (fields_of (text_and_status b n)) names.Status (uint_bytes n) (bytes-item b short, (uint-item n small, tt)) (omega arith) refl

both-read : (b : List ℕ) (n : ℕ) → length b < 2 ^ 32 → n < 2 ^ 64 → session_data (session_data_bytes (text_and_status b n)) ≡ Some (text_and_status b n)
unfolding session_data
both-read b n short small =
    let d = both-text b n short small in
    let s = both-status b n short small in
    rw (cbor-piece (session_data_bytes (text_and_status b n)) (piece (text_and_status b n) (bytes-item b short, (uint-item n small, tt)) (omega arith)))
    (rw (d.is, s.is) (rw (tree-shortest (Bytes b) short (omega arith), tree-shortest (Unsigned n) small (omega arith)) refl))

by_fields : (sealed : Option (List ℕ)) (status : Option ℕ) → IsWritable (record { sealed = sealed; status = status })
    → session_data (session_data_bytes (record { sealed = sealed; status = status })) ≡ Some (record { sealed = sealed; status = status })
by_fields (Some b) (Some n) is = both-read b n is.sealed is.status
by_fields (Some b) None is = text-read b is.sealed
by_fields None (Some n) is = status-read n is.status
by_fields None None is = absurd (let e = is.field in cc)

pub data-read : DataIsRead
data-read message is = by_fields message.sealed message.status is
