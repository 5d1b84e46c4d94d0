-- A request that was written is read as what was given.
use Rattle.std.proofs.Common.{◌≡◌, ◌<◌, ◌≤◌, ◌+◌, ◌&&◌, ℕ, zero, suc, true, List, [], ◌∷◌, length, Some, None, Ok, refl, ap, ◌∙◌, arith, codes}
use Rattle.std.specs.Prelude.{nat_le, slice_get}
use Rattle.std.specs.List.{AllByRecursion}
use Rattle.std.proofs.lemmas.Bool.{le-leb}
use Rattle.mdoc_outside.specs.declared.key_name.KeyName.TheVariants as keys
use Rattle.cbor_view.specs.Parts.{Part, cbor, items_in, text_in}
use Rattle.cbor_view.specs.Shortest.{array_bytes, text_bytes}
use Rattle.cbor_view.specs.Tree.{Text}
use Rattle.cbor_view.proofs.WrittenParts.{IsPiece, cbor-piece, items-written, items_begin, parts_from, piece-array, piece-shortest, tree-shortest}
use Rattle.cbor_maps.specs.Reading.{field}
use Rattle.cbor_maps.specs.Writing.{Fields, with_values}
use Rattle.cbor_maps.specs.WrittenReads.{AreItems}
use Rattle.cbor_maps.proofs.WrittenMaps.{IsUnder, piece-named, under, utf8-ascii}
use Rattle.doc_request.specs.declared.doc_draft.DocDraft.{DocDraft}
use Rattle.doc_request.specs.Asked.{Documents, request_fault, requests_in}
use Rattle.doc_request.specs.Draft.{IsRequest}
use Rattle.doc_request.specs.Spaces.{is_count}
use Rattle.doc_request.specs.Written.{AreAuthentications, IsAuthentication, document_maps, request_bytes}
use Rattle.doc_request.proofs.Writing.{maps_length}
use Rattle.request_laws.specs.ReadBack.{IsReadBack}
use Rattle.request_laws.proofs.DocumentsRead.{AreSigned, IsAuth, documents-pieces, documents-read}
use Rattle.request_laws.proofs.ItemsRead.{value}

-- ---- the authentications

auth-at : (place : ℕ) (auths : List (List ℕ)) → AllByRecursion IsAuthentication auths → IsAuth (slice_get auths place)
auth-at place [] each = tt
auth-at zero (auth ∷ auths) each = each.0
auth-at (suc place) (auth ∷ auths) each = auth-at place auths each.1

are-signed : (place : ℕ) (drafts : List DocDraft) (auths : List (List ℕ)) → AllByRecursion IsAuthentication auths → AreSigned place drafts auths
are-signed place [] auths each = tt
are-signed place (draft ∷ drafts) auths each = (auth-at place auths each, are-signed (place + 1) drafts auths each)

-- ---- the map DeviceRequest

abbrev version : List ℕ
version = text_bytes (codes "1.0")

abbrev request_fields : List DocDraft → List (List ℕ) → Fields
request_fields drafts auths = (keys.Version, Some version) ∷ (keys.DocRequests, Some (array_bytes (document_maps 0 drafts auths))) ∷ []

version-piece : IsPiece 0 version
version-piece = piece-shortest 0 (Text (codes "1.0")) (omega arith, utf8-ascii (codes "1.0") refl) (omega arith)

version-read : (at : ℕ) → text_in (record { at = at; bytes = version }) ≡ Some (codes "1.0")
version-read at = rw (tree-shortest (Text (codes "1.0")) (omega arith, utf8-ascii (codes "1.0") refl) (omega arith)) refl

few-maps : (drafts : List DocDraft) (auths : List (List ℕ)) → IsRequest drafts → length (document_maps 0 drafts auths) ≤ 16
few-maps drafts auths is = let few = is.few in rw (maps_length 0 drafts auths) (omega arith)

array-piece : (drafts : List DocDraft) (auths : List (List ℕ)) → IsRequest drafts → AreAuthentications drafts auths → IsPiece 4 (array_bytes (document_maps 0 drafts auths))
array-piece drafts auths is are = let few = few-maps drafts auths is in piece-array 3 (document_maps 0 drafts auths) (documents-pieces 0 drafts auths is.each (are-signed 0 drafts auths are.each)) (omega arith)

request-values : (drafts : List DocDraft) (auths : List (List ℕ)) → IsRequest drafts → AreAuthentications drafts auths → AreItems (with_values (request_fields drafts auths))
request-values drafts auths is are = (
  value 0 version (omega arith) version-piece,
  (value 4 (array_bytes (document_maps 0 drafts auths)) (omega arith) (array-piece drafts auths is are), tt),
)

abbrev request_part : List DocDraft → List (List ℕ) → Part
request_part drafts auths = record { at = 0; bytes = request_bytes drafts auths }

request-cbor : (drafts : List DocDraft) (auths : List (List ℕ)) → IsRequest drafts → AreAuthentications drafts auths → cbor (request_bytes drafts auths) ≡ Ok (request_part drafts auths)
unfolding request_bytes
request-cbor drafts auths is are = cbor-piece (request_bytes drafts auths) (piece-named (request_fields drafts auths) (request-values drafts auths is are) (omega arith))

record HasFields (drafts : List DocDraft) (auths : List (List ℕ)) : Type 0 where
  version_is : IsUnder (request_part drafts auths) keys.Version version
  documents : IsUnder (request_part drafts auths) keys.DocRequests (array_bytes (document_maps 0 drafts auths))

has-fields : (drafts : List DocDraft) (auths : List (List ℕ)) → IsRequest drafts → AreAuthentications drafts auths → HasFields drafts auths
unfolding request_bytes
has-fields drafts auths is are = let values = request-values drafts auths is are in record {
  version_is = under 0 (request_fields drafts auths) keys.Version version values (omega arith) refl;
  documents = under 0 (request_fields drafts auths) keys.DocRequests (array_bytes (document_maps 0 drafts auths)) values (omega arith) refl;
}

abbrev parts_of : ℕ → List DocDraft → List (List ℕ) → List Part
parts_of at drafts auths = parts_from (items_begin at (document_maps 0 drafts auths)) (document_maps 0 drafts auths)

record AreFields (drafts : List DocDraft) (auths : List (List ℕ)) : Type 0 where
  at : ℕ
  version_is : field keys.Version text_in (request_part drafts auths) ≡ Ok (codes "1.0")
  documents : field keys.DocRequests items_in (request_part drafts auths) ≡ Ok (parts_of at drafts auths)

fields-read : (drafts : List DocDraft) (auths : List (List ℕ)) → IsRequest drafts → AreAuthentications drafts auths → AreFields drafts auths
fields-read drafts auths is are =
    let has = has-fields drafts auths is are in
    let v = has.version_is in
    let d = has.documents in
    let few = few-maps drafts auths is in
    record {
      at = d.at;
      version_is = rw v.is (rw (version-read v.at) refl);
      documents = rw d.is (rw (items-written 3 (document_maps 0 drafts auths) d.at (documents-pieces 0 drafts auths is.each (are-signed 0 drafts auths are.each)) (omega arith) (omega arith)) refl);
    }

parts-length : (at : ℕ) (parts : List (List ℕ)) → length (parts_from at parts) ≡ length parts
parts-length at [] = refl
parts-length at (part ∷ parts) = ap suc (parts-length (at + length part) parts)

counted : (most n : ℕ) → 0 < n → n ≤ most → (nat_le 1 n && nat_le n most) ≡ true
counted most n some few = rw (le-leb 1 n (omega arith), le-leb n most few) refl

few-parts : (at : ℕ) (drafts : List DocDraft) (auths : List (List ℕ)) → IsRequest drafts → is_count 16 (parts_of at drafts auths) ≡ true
few-parts at drafts auths is =
    let count = parts-length (items_begin at (document_maps 0 drafts auths)) (document_maps 0 drafts auths) ∙ maps_length 0 drafts auths in
    let some = is.some in
    let few = is.few in
    counted 16 (length (parts_of at drafts auths)) (omega arith) (omega arith)

pub request-read : (drafts : List DocDraft) (auths : List (List ℕ)) → IsRequest drafts → AreAuthentications drafts auths → IsReadBack drafts auths
request-read drafts auths is are =
    let fields = fields-read drafts auths is are in
    let read = documents-read (items_begin fields.at (document_maps 0 drafts auths)) 0 drafts auths is.each (are-signed 0 drafts auths are.each) in
    let sound : request_fault (request_part drafts auths) ≡ None = rw (fields.version_is, fields.documents) (rw (few-parts fields.at drafts auths is, read.sound) refl) in
    let requests : requests_in (request_part drafts auths) ≡ parts_of fields.at drafts auths = rw fields.documents refl in
    record {
      documents = read.read;
      asked_is = rw (request-cbor drafts auths is are) (rw sound (rw requests (ap Documents read.is)));
      same = read.same;
    }
