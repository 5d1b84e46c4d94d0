-- What the issuer signed, as it was written, is read as it was given.
use Rattle.std.proofs.Common.{◌≡◌, ℕ, map, Some, Ok, refl, arith}
use Rattle.mdoc_outside.specs.declared.key_name.KeyName.TheVariants as keys
use Rattle.cbor_view.proofs.WrittenParts.{ArePieces, IsPiece, piece-deeper}
use Rattle.cbor_maps.specs.Reading.{map_in}
use Rattle.cbor_maps.specs.Writing.{named_map, spelled_keys, with_values}
use Rattle.cbor_maps.specs.WrittenReads.{AreItems}
use Rattle.cbor_maps.proofs.WrittenMaps.{under}
use Rattle.doc_response.specs.Answered.{items_map}
use Rattle.doc_response.specs.Draft.{Document}
use Rattle.doc_response.specs.Response as reading
use Rattle.doc_response.specs.Written.{issuer_fields}
use Rattle.doc_response.specs.WrittenReads.{plain_part, regrouped}
use Rattle.doc_response.proofs.ItemsWritten.{items-piece, items-read}
use Rattle.response_laws.proofs.NamedMaps.{item, key-piece, named-is-map, named-piece, piece-of}
use Rattle.response_laws.proofs.WholeDocument.{IsWhole}

pieces : (d : Document) → IsWhole d → ArePieces 28 (spelled_keys (with_values (issuer_fields d)))
pieces d is = (
  key-piece 28 keys.NameSpaces (omega arith) refl,
  piece-deeper 27 28 (items_map d.answered.items) (omega arith) (items-piece d.answered.items is.items),
  (key-piece 28 keys.IssuerAuth (omega arith) refl, piece-of 28 d.issuer_auth is.issuer_auth, tt),
)

are-items : (d : Document) → IsWhole d → AreItems (with_values (issuer_fields d))
are-items d is = (
  item 27 (items_map d.answered.items) (omega arith) (items-piece d.answered.items is.items),
  (item 28 d.issuer_auth (omega arith) (piece-of 28 d.issuer_auth is.issuer_auth), tt),
)

pub issuer-piece : (d : Document) → IsWhole d → IsPiece 29 (named_map (issuer_fields d))
issuer-piece d is = named-piece 28 (issuer_fields d) (pieces d is) (omega arith)

pub issuer-is-map : (at : ℕ) (d : Document) → IsWhole d → map_in (record { at = at; bytes = named_map (issuer_fields d) }) ≡ Some (record { at = at; bytes = named_map (issuer_fields d) })
issuer-is-map at d is = named-is-map 28 at (issuer_fields d) (pieces d is) (omega arith) (omega arith)

pub record IssuerRead (at : ℕ) (d : Document) : Type 0 where
  pub read : reading.IssuerSigned
  pub is : reading.issuer_signed (record { at = at; bytes = named_map (issuer_fields d) }) ≡ Ok read
  pub auth : read.auth.bytes ≡ d.issuer_auth
  pub items : map plain_part read.items ≡ regrouped d.answered.items

pub issuer-read : (at : ℕ) (d : Document) → IsWhole d → IssuerRead at d
issuer-read at d is =
    let are = are-items d is in
    let n = under at (issuer_fields d) keys.NameSpaces (items_map d.answered.items) are (omega arith) refl in
    let a = under at (issuer_fields d) keys.IssuerAuth d.issuer_auth are (omega arith) refl in
    let items = items-read n.at d.answered.items is.items in
    record {
      read = reading.with_auth items.namespaces (record { at = a.at; bytes = d.issuer_auth });
      is = rw (n.is, a.is) (rw items.is refl);
      auth = refl;
      items = items.same;
    }
