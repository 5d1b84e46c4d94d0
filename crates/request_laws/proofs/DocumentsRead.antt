-- The requests of documents that were written are read as what was given.
use Rattle.std.proofs.Common.{◌≡◌, ◌<◌, ◌^◌, ◌+◌, ℕ, List, [], ◌∷◌, length, Option, Some, None, Ok, refl, ap, ◌∙◌, arith}
use Rattle.std.specs.Prelude.{map, option_map, slice_get}
use Rattle.std.specs.List.{AllByRecursion}
use Rattle.mdoc_outside.specs.declared.key_name.KeyName.TheVariants as keys
use Rattle.cbor_view.specs.Parts.{Part}
use Rattle.cbor_view.proofs.WrittenParts.{AllPieces, IsPiece, parts_from, piece-deeper}
use Rattle.cbor_maps.specs.Reading.{any_in, optional_field}
use Rattle.cbor_maps.specs.Writing.{Fields, encoded_bytes, with_values}
use Rattle.cbor_maps.specs.WrittenReads.{AreItems}
use Rattle.cbor_maps.proofs.WrittenMaps.{IsUnder, encoded-again, piece-encoded, under, under-none}
use Rattle.doc_request.specs.declared.doc_draft.DocDraft.{DocDraft}
use Rattle.doc_request.specs.Asked.{Document, document, document_fault, documents, first_fault}
use Rattle.doc_request.specs.Draft.{IsDocument}
use Rattle.doc_request.specs.Written.{IsAuthentication, document_map, document_maps, items_map}
use Rattle.request_laws.specs.ReadBack.{PlainDocument, given, given_from, grouped, part_bytes, plain}
use Rattle.request_laws.proofs.Authentications.{auth-piece}
use Rattle.request_laws.proofs.ItemsRead.{items-cbor, items-document, items-sound, key-piece, named-piece, value}
use Rattle.request_laws.proofs.Lengths.{items-short}

abbrev document_fields : DocDraft → Option (List ℕ) → Fields
document_fields draft auth = (keys.ItemsRequest, Some (encoded_bytes (items_map draft))) ∷ (keys.ReaderAuth, auth) ∷ []

-- an authentication that may be missing
abbrev pub IsAuth : Option (List ℕ) → Type 0
IsAuth None = Unit {0}
IsAuth (Some auth) = IsAuthentication auth

encoded-piece : (draft : DocDraft) → IsDocument draft → IsPiece 1 (encoded_bytes (items_map draft))
encoded-piece draft is = piece-encoded (items_map draft) (items-short draft is)

document-values : (draft : DocDraft) (auth : Option (List ℕ)) → IsDocument draft → IsAuth auth → AreItems (with_values (document_fields draft auth))
document-values draft None is signed = (value 1 (encoded_bytes (items_map draft)) (omega arith) (encoded-piece draft is), tt)
document-values draft (Some auth) is signed = (value 1 (encoded_bytes (items_map draft)) (omega arith) (encoded-piece draft is), (value 2 auth (omega arith) (auth-piece auth signed), tt))

few-values : (draft : DocDraft) (auth : Option (List ℕ)) → length (with_values (document_fields draft auth)) < 2 ^ 32
few-values draft None = omega arith
few-values draft (Some auth) = omega arith

document-piece : (draft : DocDraft) (auth : Option (List ℕ)) → IsDocument draft → IsAuth auth → IsPiece 3 (document_map draft auth)
unfolding document_map
document-piece draft None is signed = named-piece 2 (document_fields draft None) (
  key-piece 2 keys.ItemsRequest (omega arith) refl,
  piece-deeper 1 2 (encoded_bytes (items_map draft)) (omega arith) (encoded-piece draft is),
  tt,
) (omega arith)
document-piece draft (Some auth) is signed = named-piece 2 (document_fields draft (Some auth)) (
  key-piece 2 keys.ItemsRequest (omega arith) refl,
  piece-deeper 1 2 (encoded_bytes (items_map draft)) (omega arith) (encoded-piece draft is),
  (key-piece 2 keys.ReaderAuth (omega arith) refl, auth-piece auth signed, tt),
) (omega arith)

abbrev map_part : ℕ → DocDraft → Option (List ℕ) → Part
map_part at draft auth = record { at = at; bytes = document_map draft auth }

items-under : (at : ℕ) (draft : DocDraft) (auth : Option (List ℕ)) → IsDocument draft → IsAuth auth → IsUnder (map_part at draft auth) keys.ItemsRequest (encoded_bytes (items_map draft))
unfolding document_map
items-under at draft None is signed = under at (document_fields draft None) keys.ItemsRequest (encoded_bytes (items_map draft)) (document-values draft None is signed) (few-values draft None) refl
items-under at draft (Some auth) is signed = under at (document_fields draft (Some auth)) keys.ItemsRequest (encoded_bytes (items_map draft)) (document-values draft (Some auth) is signed) (few-values draft (Some auth)) refl

-- the authentication, wherever it is
record HasAuth (map : Part) (auth : Option (List ℕ)) : Type 0 where
  found : Option Part
  is : optional_field keys.ReaderAuth any_in map ≡ Ok found
  same : option_map part_bytes found ≡ auth

auth-under : (at : ℕ) (draft : DocDraft) (auth : Option (List ℕ)) → IsDocument draft → IsAuth auth → HasAuth (map_part at draft auth) auth
unfolding document_map
auth-under at draft None is signed = record {
  found = None;
  is = rw (under-none at (document_fields draft None) keys.ReaderAuth (document-values draft None is signed) (few-values draft None) refl) refl;
  same = refl;
}
auth-under at draft (Some auth) is signed =
    let a = under at (document_fields draft (Some auth)) keys.ReaderAuth auth (document-values draft (Some auth) is signed) (few-values draft (Some auth)) refl in
    record { found = Some (record { at = a.at; bytes = auth }); is = rw a.is refl; same = refl }

-- what is read of a document's request
record IsDocumentRead (map : Part) (draft : DocDraft) (auth : Option (List ℕ)) : Type 0 where
  read : Document
  is : document map ≡ Some read
  sound : document_fault map ≡ None
  same : plain read ≡ given draft auth

document-read : (at : ℕ) (draft : DocDraft) (auth : Option (List ℕ)) → IsDocument draft → IsAuth auth → IsDocumentRead (map_part at draft auth) draft auth
document-read at draft auth is signed =
    let items = items-under at draft auth is signed in
    let own = auth-under at draft auth is signed in
    let short = items-short draft is in
    let tagged = encoded_bytes (items_map draft) in
    record {
      read = record { doc_type = draft.doc_type; items = tagged; reader_auth = own.found; wishes = grouped draft.wishes };
      is = rw (items.is, own.is) (rw (encoded-again items.at (items_map draft) short) (rw (items-cbor draft is) (items-document draft tagged own.found is)));
      sound = rw (items.is, own.is) (rw (encoded-again items.at (items_map draft) short) (rw (items-cbor draft is) (rw (items-sound draft is) refl)));
      same = ap (λ (found : Option (List ℕ)). record { doc_type = draft.doc_type; items = tagged; reader_auth = found; wishes = grouped draft.wishes }) own.same;
    }

-- ---- all documents

-- the authentications from a place on
abbrev pub AreSigned : ℕ → List DocDraft → List (List ℕ) → Type 0
AreSigned place [] auths = Unit {0}
AreSigned place (draft ∷ drafts) auths = IsAuth (slice_get auths place) × AreSigned (place + 1) drafts auths

pub documents-pieces : (place : ℕ) (drafts : List DocDraft) (auths : List (List ℕ)) → AllByRecursion IsDocument drafts → AreSigned place drafts auths → AllPieces 3 (document_maps place drafts auths)
documents-pieces place [] auths are signed = tt
documents-pieces place (draft ∷ drafts) auths are signed = (document-piece draft (slice_get auths place) are.0 signed.0, documents-pieces (place + 1) drafts auths are.1 signed.1)

pub record AreDocumentsRead (requests : List Part) (place : ℕ) (drafts : List DocDraft) (auths : List (List ℕ)) : Type 0 where
  pub read : List Document
  pub is : documents requests ≡ read
  pub sound : first_fault requests ≡ None
  pub same : map plain read ≡ given_from place drafts auths

pub documents-read : (at place : ℕ) (drafts : List DocDraft) (auths : List (List ℕ)) → AllByRecursion IsDocument drafts → AreSigned place drafts auths → AreDocumentsRead (parts_from at (document_maps place drafts auths)) place drafts auths
documents-read at place [] auths are signed = record { read = []; is = refl; sound = refl; same = refl }
documents-read at place (draft ∷ drafts) auths are signed =
    let first = document-read at draft (slice_get auths place) are.0 signed.0 in
    let rest = documents-read (at + length (document_map draft (slice_get auths place))) (place + 1) drafts auths are.1 signed.1 in
    record {
      read = first.read ∷ rest.read;
      is = rw first.is (ap (λ (x : List Document). first.read ∷ x) rest.is);
      sound = rw (first.sound, rest.sound) refl;
      same = ap (λ (x : List PlainDocument). plain first.read ∷ x) rest.same ∙ ap (λ (x : PlainDocument). x ∷ given_from (place + 1) drafts auths) first.same;
    }
