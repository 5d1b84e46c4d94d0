-- A document that was written is read as it was given.
use Rattle.std.proofs.Common.{◌≡◌, ℕ, ◌+◌, ◌<◌, ◌^◌, List, [], ◌∷◌, length, map, Option, Some, None, Ok, IfSome, refl, arith}
use Rattle.std.specs.List.{AllByRecursion}
use Rattle.mdoc_outside.specs.declared.key_name.KeyName.TheVariants as keys
use Rattle.cbor_view.specs.Parts.{Part}
use Rattle.cbor_view.specs.Shortest.{array_bytes, text_bytes}
use Rattle.cbor_view.proofs.WrittenParts.{AllPieces, IsPiece, items-written, items_begin, parts_from, piece-array, piece-deeper}
use Rattle.cbor_maps.specs.Writing.{Fields, named_map, with_values}
use Rattle.cbor_maps.specs.WrittenReads.{AreItems}
use Rattle.cbor_maps.proofs.WrittenMaps.{IsUnder, under}
use Rattle.doc_response.specs.Answered.{errors_map, if_any}
use Rattle.doc_response.specs.Draft.{Document}
use Rattle.doc_response.specs.Response as reading
use Rattle.doc_response.specs.Written as writing
use Rattle.doc_response.specs.WrittenReads.{plain_part, regrouped}
use Rattle.doc_response.proofs.Grouping.{map-length}
use Rattle.doc_response.proofs.GroupsRead.{text-piece, text-read}
use Rattle.response_laws.specs.ReadBack.{HasAuth, ReadsDocument, ReadsEach}
use Rattle.response_laws.proofs.DeviceRead.{device-is-map, device-piece, device-read}
use Rattle.response_laws.proofs.ErrorsRead.{element-errors-read, errors-piece}
use Rattle.response_laws.proofs.IssuerRead.{issuer-is-map, issuer-piece, issuer-read}
use Rattle.response_laws.proofs.NamedMaps.{MayHave, item, key-piece, may-have, named-piece}
use Rattle.response_laws.proofs.WholeDocument.{AreNames, IsWhole}

-- ---- what is under its keys

abbrev fields_of : List ℕ → List ℕ → List ℕ → Option (List ℕ) → Fields
fields_of doc_type issuer device errors =
    (keys.DocType, Some doc_type) ∷ (keys.IssuerSigned, Some issuer) ∷ (keys.DeviceSigned, Some device) ∷ (keys.Errors, errors) ∷ []

record HasFields (at : ℕ) (doc_type issuer device : List ℕ) (errors : Option (List ℕ)) : Type 0 where
  piece : IsPiece 30 (named_map (fields_of doc_type issuer device errors))
  has_type : IsUnder (record { at = at; bytes = named_map (fields_of doc_type issuer device errors) }) keys.DocType doc_type
  has_issuer : IsUnder (record { at = at; bytes = named_map (fields_of doc_type issuer device errors) }) keys.IssuerSigned issuer
  has_device : IsUnder (record { at = at; bytes = named_map (fields_of doc_type issuer device errors) }) keys.DeviceSigned device
  has_errors : MayHave (record { at = at; bytes = named_map (fields_of doc_type issuer device errors) }) keys.Errors errors

has-fields : (at : ℕ) (doc_type issuer device : List ℕ) (errors : Option (List ℕ)) → IsPiece 29 doc_type → IsPiece 29 issuer → IsPiece 29 device → IfSome errors (IsPiece 29) → HasFields at doc_type issuer device errors
has-fields at doc_type issuer device None t i d e =
    let fields = fields_of doc_type issuer device None in
    let are : AreItems (with_values fields) = (item 29 doc_type (omega arith) t, (item 29 issuer (omega arith) i, (item 29 device (omega arith) d, tt))) in
    record {
      piece = named-piece 29 fields (key-piece 29 keys.DocType (omega arith) refl, t, (key-piece 29 keys.IssuerSigned (omega arith) refl, i, (key-piece 29 keys.DeviceSigned (omega arith) refl, d, tt))) (omega arith);
      has_type = under at fields keys.DocType doc_type are (omega arith) refl;
      has_issuer = under at fields keys.IssuerSigned issuer are (omega arith) refl;
      has_device = under at fields keys.DeviceSigned device are (omega arith) refl;
      has_errors = may-have at fields keys.Errors None are (omega arith) refl;
    }
has-fields at doc_type issuer device (Some errors) t i d e =
    let fields = fields_of doc_type issuer device (Some errors) in
    let are : AreItems (with_values fields) = (item 29 doc_type (omega arith) t, (item 29 issuer (omega arith) i, (item 29 device (omega arith) d, (item 29 errors (omega arith) e, tt)))) in
    record {
      piece = named-piece 29 fields (key-piece 29 keys.DocType (omega arith) refl, t, (key-piece 29 keys.IssuerSigned (omega arith) refl, i, (key-piece 29 keys.DeviceSigned (omega arith) refl, d, (key-piece 29 keys.Errors (omega arith) refl, e, tt)))) (omega arith);
      has_type = under at fields keys.DocType doc_type are (omega arith) refl;
      has_issuer = under at fields keys.IssuerSigned issuer are (omega arith) refl;
      has_device = under at fields keys.DeviceSigned device are (omega arith) refl;
      has_errors = may-have at fields keys.Errors (Some errors) are (omega arith) refl;
    }

some-errors : (missing : List (List ℕ × List ℕ)) → AreNames missing → IfSome (if_any missing (errors_map missing)) (IsPiece 29)
some-errors [] are = tt
some-errors (element ∷ missing) are = piece-deeper 2 29 (errors_map (element ∷ missing)) (omega arith) (errors-piece (element ∷ missing) are)

fields-of : (at : ℕ) (d : Document) → IsWhole d →
    HasFields at (text_bytes d.answered.doc_type) (named_map (writing.issuer_fields d)) (writing.device_signed d.auth) (if_any d.answered.missing (errors_map d.answered.missing))
fields-of at d is = has-fields at (text_bytes d.answered.doc_type) (named_map (writing.issuer_fields d)) (writing.device_signed d.auth) (if_any d.answered.missing (errors_map d.answered.missing))
    (text-piece 29 d.answered.doc_type is.doc_type) (issuer-piece d is) (piece-deeper 4 29 (writing.device_signed d.auth) (omega arith) (device-piece d.auth is.auth)) (some-errors d.answered.missing is.missing)

-- ---- the halves of a document

record IssuedRead (map_at : Part) (d : Document) : Type 0 where
  read : reading.IssuerSigned
  is : reading.issued_document map_at ≡ Ok (d.answered.doc_type, read)
  auth : read.auth.bytes ≡ d.issuer_auth
  items : map plain_part read.items ≡ regrouped d.answered.items

issued-read : (m : Part) (d : Document) → IsWhole d → IsUnder m keys.DocType (text_bytes d.answered.doc_type) → IsUnder m keys.IssuerSigned (named_map (writing.issuer_fields d)) → IssuedRead m d
issued-read m d is t i =
    let issuer = issuer-read i.at d is in
    record {
      read = issuer.read;
      is = rw (t.is, i.is) (rw (text-read t.at d.answered.doc_type is.doc_type) (rw (issuer-is-map i.at d is) (rw issuer.is refl)));
      auth = issuer.auth;
      items = issuer.items;
    }

record AuthenticatedRead (m : Part) (d : Document) : Type 0 where
  read : reading.DeviceSigned
  is : reading.authenticated m ≡ Ok read
  namespaces : read.namespaces ≡ named_map []
  has : HasAuth read.auth d.auth

authenticated-read : (m : Part) (d : Document) → IsWhole d → IsUnder m keys.DeviceSigned (writing.device_signed d.auth) → MayHave m keys.Errors (if_any d.answered.missing (errors_map d.answered.missing)) → AuthenticatedRead m d
authenticated-read m d is v e =
    let device = device-read v.at d.auth is.auth in
    record {
      read = device.read;
      is = rw (element-errors-read m d.answered.missing is.missing e) (rw v.is (rw (device-is-map v.at d.auth is.auth) (rw device.is refl)));
      namespaces = device.namespaces;
      has = device.has;
    }

-- ---- a document

record DocumentRead (at : ℕ) (d : Document) : Type 0 where
  read : reading.Document
  is : reading.document (record { at = at; bytes = writing.document_bytes d }) ≡ Ok read
  reads : ReadsDocument read d

document-read : (at : ℕ) (d : Document) → IsWhole d → DocumentRead at d
unfolding reading.document writing.document_bytes
document-read at d is =
    let has = fields-of at d is in
    let m : Part = record { at = at; bytes = named_map (writing.document_fields d) } in
    let issued = issued-read m d is has.has_type has.has_issuer in
    let shown = authenticated-read m d is has.has_device has.has_errors in
    record {
      read = reading.whole_document (d.answered.doc_type, issued.read) shown.read;
      is = rw (issued.is, shown.is) refl;
      reads = record { doc_type = refl; issuer_auth = issued.auth; items = issued.items; device_namespaces = shown.namespaces; auth = shown.has };
    }

document-piece : (d : Document) → IsWhole d → IsPiece 30 (writing.document_bytes d)
unfolding writing.document_bytes
document-piece d is = let has = fields-of 0 d is in has.piece

-- ---- documents

record EachRead (parts : List Part) (documents : List Document) : Type 0 where
  read : List reading.Document
  is : reading.documents_of parts ≡ Ok read
  reads : ReadsEach read documents

each-read : (at : ℕ) (documents : List Document) → AllByRecursion IsWhole documents → EachRead (parts_from at (map writing.document_bytes documents)) documents
each-read at [] all = record { read = []; is = refl; reads = tt }
each-read at (d ∷ documents) all =
    let one = document-read at d all.0 in
    let rest = each-read (at + length (writing.document_bytes d)) documents all.1 in
    record {
      read = one.read ∷ rest.read;
      is = rw (one.is, rest.is) refl;
      reads = (one.reads, rest.reads);
    }

each-piece : (documents : List Document) → AllByRecursion IsWhole documents → AllPieces 30 (map writing.document_bytes documents)
each-piece [] all = tt
each-piece (d ∷ documents) all = (document-piece d all.0, each-piece documents all.1)

few-documents : (documents : List Document) → length documents < 2 ^ 32 → length (map writing.document_bytes documents) < 2 ^ 32
few-documents documents few = let count = map-length writing.document_bytes documents in omega (arith, count, few)

pub documents-piece : (documents : List Document) → AllByRecursion IsWhole documents → length documents < 2 ^ 32 → IsPiece 31 (array_bytes (map writing.document_bytes documents))
documents-piece documents all few = piece-array 30 (map writing.document_bytes documents) (each-piece documents all) (few-documents documents few)

pub record DocumentsRead (m : Part) (documents : List Document) : Type 0 where
  pub read : List reading.Document
  pub is : reading.documents m ≡ Ok read
  pub reads : ReadsEach read documents

pub documents-read : (m : Part) (documents : List Document) → AllByRecursion IsWhole documents → length documents < 2 ^ 32 →
    MayHave m keys.Documents (if_any documents (array_bytes (map writing.document_bytes documents))) → DocumentsRead m documents
documents-read m [] all few has = record { read = []; is = rw has refl; reads = tt }
documents-read m (d ∷ documents) all few has =
    let parts = map writing.document_bytes (d ∷ documents) in
    let each = each-read (items_begin has.at parts) (d ∷ documents) all in
    record {
      read = each.read;
      is = rw has.is (rw (items-written 30 parts has.at (each-piece (d ∷ documents) all) (omega arith) (few-documents (d ∷ documents) few)) (rw each.is refl));
      reads = each.reads;
    }
