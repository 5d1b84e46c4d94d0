-- What the device signed, as it was written, is read as it was given.
use Rattle.std.proofs.Common.{◌≡◌, ℕ, ◌<◌, ◌^◌, [], ◌∷◌, length, Some, Ok, refl, arith}
use Rattle.mdoc_outside.specs.declared.key_name.KeyName.TheVariants as keys
use Rattle.cbor_view.specs.Parts.{pairs_in}
use Rattle.cbor_view.proofs.WrittenParts.{ArePieces, IsPiece, cbor-piece, piece-deeper}
use Rattle.cbor_maps.specs.Reading.{map_in}
use Rattle.cbor_maps.specs.Writing.{Fields, encoded_bytes, map_head, named_map, spelled_keys, with_values}
use Rattle.cbor_maps.specs.WrittenReads.{AreItems}
use Rattle.cbor_maps.proofs.WrittenMaps.{encoded-again, piece-encoded, piece-named, under}
use Rattle.doc_response.specs.declared.device_auth.DeviceAuth.{DeviceAuth}
use Rattle.doc_response.specs.Response as reading
use Rattle.doc_response.specs.Written as writing
use Rattle.response_laws.specs.ReadBack.{HasAuth}
use Rattle.response_laws.specs.Writable.{IsAuth}
use Rattle.response_laws.proofs.AuthRead.{auth-is-map, auth-piece, has-auth}
use Rattle.response_laws.proofs.NamedMaps.{item, key-piece, named-is-map, named-pairs, named-piece}

empty-short : length (named_map []) < 2 ^ 32
unfolding map_head
empty-short = omega arith

empty-pairs : pairs_in (record { at = 0; bytes = named_map [] }) ≡ Some []
empty-pairs = named-pairs 0 0 [] tt (omega arith) (omega arith)

abbrev fields_of : DeviceAuth → Fields
fields_of auth = (keys.NameSpaces, Some (encoded_bytes (named_map []))) ∷ (keys.DeviceAuth, Some (named_map (writing.auth_fields auth))) ∷ []

pieces : (auth : DeviceAuth) → IsAuth auth → ArePieces 3 (spelled_keys (with_values (fields_of auth)))
pieces auth is = (
  key-piece 3 keys.NameSpaces (omega arith) refl,
  piece-deeper 1 3 (encoded_bytes (named_map [])) (omega arith) (piece-encoded (named_map []) empty-short),
  (key-piece 3 keys.DeviceAuth (omega arith) refl, auth-piece auth is, tt),
)

are-items : (auth : DeviceAuth) → IsAuth auth → AreItems (with_values (fields_of auth))
are-items auth is = (
  item 1 (encoded_bytes (named_map [])) (omega arith) (piece-encoded (named_map []) empty-short),
  (item 3 (named_map (writing.auth_fields auth)) (omega arith) (auth-piece auth is), tt),
)

pub device-piece : (auth : DeviceAuth) → IsAuth auth → IsPiece 4 (writing.device_signed auth)
unfolding writing.device_signed
device-piece auth is = named-piece 3 (fields_of auth) (pieces auth is) (omega arith)

pub device-is-map : (at : ℕ) (auth : DeviceAuth) → IsAuth auth → map_in (record { at = at; bytes = writing.device_signed auth }) ≡ Some (record { at = at; bytes = writing.device_signed auth })
unfolding writing.device_signed
device-is-map at auth is = named-is-map 3 at (fields_of auth) (pieces auth is) (omega arith) (omega arith)

pub record DeviceRead (at : ℕ) (auth : DeviceAuth) : Type 0 where
  pub read : reading.DeviceSigned
  pub is : reading.device_signed (record { at = at; bytes = writing.device_signed auth }) ≡ Ok read
  pub namespaces : read.namespaces ≡ named_map []
  pub has : HasAuth read.auth auth

pub device-read : (at : ℕ) (auth : DeviceAuth) → IsAuth auth → DeviceRead at auth
unfolding writing.device_signed
device-read at auth is =
    let are = are-items auth is in
    let n = under at (fields_of auth) keys.NameSpaces (encoded_bytes (named_map [])) are (omega arith) refl in
    let a = under at (fields_of auth) keys.DeviceAuth (named_map (writing.auth_fields auth)) are (omega arith) refl in
    record {
      read = record { namespaces = named_map []; auth = record { at = a.at; bytes = named_map (writing.auth_fields auth) } };
      is = rw (n.is, a.is)
          (rw (encoded-again n.at (named_map []) empty-short)
          (rw (cbor-piece (named_map []) (piece-named [] tt (omega arith)))
          (rw empty-pairs
          (rw (auth-is-map a.at auth is) refl))));
      namespaces = refl;
      has = has-auth a.at auth is;
    }
