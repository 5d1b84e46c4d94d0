-- SessionEstablishment that was written is read as it was given.
use Rattle.std.proofs.Common.{◌≡◌, ℕ, suc, ap, ◌<◌, ◌^◌, List, [], ◌∷◌, ◌++◌, length, Some, refl, arith, length-append}
use Rattle.mdoc_outside.specs.declared.key_name.KeyName.TheVariants as names
use Rattle.cbor_view.specs.Parts.{Part}
use Rattle.cbor_view.specs.Shortest.{bytes_bytes}
use Rattle.cbor_view.specs.Tree.{Bytes}
use Rattle.cbor_view.proofs.WrittenParts.{IsPiece, cbor-piece, tree-shortest}
use Rattle.cbor_maps.specs.Labels.{label_bytes}
use Rattle.cbor_maps.specs.Writing.{Fields, with_values, encoded_bytes, map_head}
use Rattle.cbor_maps.specs.WrittenReads.{SpellsItem, AreItems}
use Rattle.cbor_maps.proofs.WrittenMaps.{IsUnder, under, piece-named, piece-encoded, encoded-again}
use Rattle.cose_msgs.specs.Written.{key_bytes}
use Rattle.cose_msgs.proofs.WrittenKeys.{key-read}
use Rattle.key_device.specs.declared.point.Point.{Point}
use Rattle.session_seal.specs.Laws.{EstablishmentIsRead, HasLengths}
use Rattle.session_seal.specs.Messages.{establishment}
use Rattle.session_seal.specs.WrittenMessages.{establishment_bytes}
use Rattle.session_seal.proofs.DataWritten.{bytes-item}

-- a key has 75 bytes: 8 before x, 3 before y
parts-length : (x y : List ℕ) → length x ≡ 32 → length y ≡ 32 → length ((x ++ (34 ∷ [])) ++ (88 ∷ 32 ∷ y)) ≡ 67
parts-length x y ex ey = omega (arith, length-append (x ++ (34 ∷ [])) (88 ∷ 32 ∷ y), length-append x (34 ∷ []))

key-length : (p : Point) → HasLengths p → length (key_bytes p) ≡ 75
unfolding key_bytes map_head label_bytes
key-length p is =
    let x = is.x in
    let y = is.y in
    rw (x, y) (ap (λ (n : ℕ). suc (suc (suc (suc (suc (suc (suc (suc n)))))))) (parts-length p.x p.y x y))

key-short : (p : Point) → HasLengths p → length (key_bytes p) < 2 ^ 32
key-short p is = let n = key-length p is in omega arith

abbrev fields_of : List ℕ → List ℕ → Fields
fields_of reader_key sealed = (names.EReaderKey, Some (encoded_bytes reader_key)) ∷ (names.Data, Some (bytes_bytes sealed)) ∷ []

encoded-item : (reader_key : List ℕ) → length reader_key < 2 ^ 32 → SpellsItem 31 (encoded_bytes reader_key)
encoded-item reader_key short =
    let p = piece-encoded reader_key short in
    let n = p.nesting in
    record { item = p.item; spells = record { spelled = p.spelled; nesting = omega arith }; nesting = omega arith }

are-items : (reader_key sealed : List ℕ) → length reader_key < 2 ^ 32 → length sealed < 2 ^ 32 → AreItems (with_values (fields_of reader_key sealed))
are-items reader_key sealed short few = (encoded-item reader_key short, (bytes-item sealed few, tt))

abbrev map_at : List ℕ → List ℕ → Part
map_at reader_key sealed = record { at = 0; bytes = establishment_bytes reader_key sealed }

key-under : (reader_key sealed : List ℕ) → length reader_key < 2 ^ 32 → length sealed < 2 ^ 32 → IsUnder (map_at reader_key sealed) names.EReaderKey (encoded_bytes reader_key)
unfolding establishment_bytes
key-under reader_key sealed short few = under 0 (fields_of reader_key sealed) names.EReaderKey (encoded_bytes reader_key) (are-items reader_key sealed short few) (omega arith) refl

text-under : (reader_key sealed : List ℕ) → length reader_key < 2 ^ 32 → length sealed < 2 ^ 32 → IsUnder (map_at reader_key sealed) names.Data (bytes_bytes sealed)
unfolding establishment_bytes
text-under reader_key sealed short few = under 0 (fields_of reader_key sealed) names.Data (bytes_bytes sealed) (are-items reader_key sealed short few) (omega arith) refl

piece : (reader_key sealed : List ℕ) → length reader_key < 2 ^ 32 → length sealed < 2 ^ 32 → IsPiece 32 (establishment_bytes reader_key sealed)
unfolding establishment_bytes
piece reader_key sealed short few = piece-named (fields_of reader_key sealed) (are-items reader_key sealed short few) (omega arith)

pub establishment-read : EstablishmentIsRead
unfolding establishment
establishment-read point sealed is few =
    let key = key_bytes point in
    let short = key-short point is in
    let k = key-under key sealed short few in
    let t = text-under key sealed short few in
    let read = key-read point (record { x = is.x; y = is.y }) in
    rw (cbor-piece (establishment_bytes key sealed) (piece key sealed short few))
    (rw (k.is, t.is)
    (rw (encoded-again k.at key short, tree-shortest (Bytes sealed) few (omega arith))
    (rw read.one (rw read.value_is refl))))
