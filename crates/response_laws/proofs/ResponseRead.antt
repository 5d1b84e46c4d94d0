-- A response that was written of status 0 is read as it was given.
use Rattle.std.proofs.Common.{◌≡◌, ◌==◌, ℕ, ◌<◌, ◌^◌, Bool, not, if◌then◌else◌, List, [], ◌∷◌, ◌++◌, length, map, Option, Some, None, Ok, IfSome, refl, sym, ap, subst, arith, eq-eqb, codes}
use Rattle.std.specs.List.{AllByRecursion}
use Rattle.mdoc_outside.specs.declared.key_name.KeyName.TheVariants as keys
use Rattle.cbor_view.specs.Label.{only_of}
use Rattle.cbor_view.specs.Parts.{Part}
use Rattle.cbor_view.specs.Shortest.{array_bytes, uint_bytes}
use Rattle.cbor_view.specs.Tree.{Text, Unsigned}
use Rattle.cbor_view.proofs.WrittenParts.{IsPiece, cbor-piece, piece-deeper, piece-shortest, tree-shortest}
use Rattle.cbor_maps.specs.Writing.{Fields, named_map, with_values}
use Rattle.cbor_maps.specs.WrittenReads.{AreItems, SpellsItem, values_named}
use Rattle.cbor_maps.proofs.WrittenMaps.{IsUnder, piece-named, under, utf8-ascii}
use Rattle.doc_response.specs.Answered.{document_error, if_any, is_empty}
use Rattle.doc_response.specs.Draft.{Document, Draft}
use Rattle.doc_response.specs.Response as reading
use Rattle.doc_response.specs.Written as writing
use Rattle.doc_response.specs.WrittenReads.{IsText, plain_part}
use Rattle.doc_response.proofs.Grouping.{filter-all, filter-fewer, map-all}
use Rattle.response_laws.specs.ReadBack.{ReadsBack, ReadsEach, not_returned}
use Rattle.response_laws.specs.Writable.{HasSpellings, IsSmall}
use Rattle.response_laws.proofs.DocumentRead.{documents-piece, documents-read}
use Rattle.response_laws.proofs.ErrorsRead.{document-errors-read, types-piece}
use Rattle.response_laws.proofs.NamedMaps.{MayHave, item, may-have}
use Rattle.response_laws.proofs.WholeDocument.{IsWhole, all-whole}

-- ---- what is under its keys

abbrev fields_of : Option (List ℕ) → Option (List ℕ) → List ℕ → Fields
fields_of documents errors status = (keys.Version, Some writing.version) ∷ (keys.Documents, documents) ∷ (keys.DocumentErrors, errors) ∷ (keys.Status, Some status) ∷ []

abbrev map_of : Option (List ℕ) → Option (List ℕ) → List ℕ → Part
map_of documents errors status = record { at = 0; bytes = named_map (fields_of documents errors status) }

record HasFields (documents errors : Option (List ℕ)) (status : List ℕ) : Type 0 where
  piece : IsPiece 32 (named_map (fields_of documents errors status))
  has_version : IsUnder (map_of documents errors status) keys.Version writing.version
  has_documents : MayHave (map_of documents errors status) keys.Documents documents
  has_errors : MayHave (map_of documents errors status) keys.DocumentErrors errors
  has_status : IsUnder (map_of documents errors status) keys.Status status

version-item : SpellsItem 31 writing.version
version-item = item 0 writing.version (omega arith) (piece-shortest 0 (Text (codes "1.0")) (omega arith, utf8-ascii (codes "1.0") refl) (omega arith))

has-fields : (documents errors : Option (List ℕ)) (status : List ℕ) → AreItems (with_values (fields_of documents errors status)) → length (with_values (fields_of documents errors status)) < 2 ^ 32 →
    only_of (values_named keys.Version (with_values (fields_of documents errors status))) ≡ Ok (Some writing.version) →
    only_of (values_named keys.Documents (with_values (fields_of documents errors status))) ≡ Ok documents →
    only_of (values_named keys.DocumentErrors (with_values (fields_of documents errors status))) ≡ Ok errors →
    only_of (values_named keys.Status (with_values (fields_of documents errors status))) ≡ Ok (Some status) →
    HasFields documents errors status
has-fields documents errors status are few v d e s = let fields = fields_of documents errors status in record {
  piece = piece-named fields are few;
  has_version = under 0 fields keys.Version writing.version are few v;
  has_documents = may-have 0 fields keys.Documents documents are few d;
  has_errors = may-have 0 fields keys.DocumentErrors errors are few e;
  has_status = under 0 fields keys.Status status are few s;
}

by-fields : (documents errors : Option (List ℕ)) (status : List ℕ) → IfSome documents (IsPiece 31) → IfSome errors (IsPiece 31) → IsPiece 0 status → HasFields documents errors status
by-fields (Some documents) (Some errors) status d e s = has-fields (Some documents) (Some errors) status
    (version-item, (item 31 documents (omega arith) d, (item 31 errors (omega arith) e, (item 0 status (omega arith) s, tt)))) (omega arith) refl refl refl refl
by-fields (Some documents) None status d e s = has-fields (Some documents) None status
    (version-item, (item 31 documents (omega arith) d, (item 0 status (omega arith) s, tt))) (omega arith) refl refl refl refl
by-fields None (Some errors) status d e s = has-fields None (Some errors) status
    (version-item, (item 31 errors (omega arith) e, (item 0 status (omega arith) s, tt))) (omega arith) refl refl refl refl
by-fields None None status d e s = has-fields None None status
    (version-item, (item 0 status (omega arith) s, tt)) (omega arith) refl refl refl refl

-- ---- the documents that are given, and the types of all others

all-append : {A : Type 0} (P : A → Type 0) (xs ys : List A) → AllByRecursion P xs → AllByRecursion P ys → AllByRecursion P (xs ++ ys)
all-append P [] ys one two = two
all-append P (x ∷ xs) ys one two = (one.0, all-append P xs ys one.1 two)

types-all : (documents : List Document) → AllByRecursion IsWhole documents → AllByRecursion (λ (d : Document). IsText d.answered.doc_type) documents
types-all [] all = tt
types-all (d ∷ documents) all = let one = all.0 in (one.doc_type, types-all documents all.1)

abbrev is_nothing : Document → Bool
is_nothing d = is_empty d.answered

given-all : (draft : Draft) → AllByRecursion IsWhole draft.documents → AllByRecursion IsWhole (writing.given draft.documents)
given-all draft all = filter-all IsWhole (λ (d : Document). not (is_nothing d)) draft.documents all

given-few : (draft : Draft) → length draft.documents < 2 ^ 32 → length (writing.given draft.documents) < 2 ^ 32
given-few draft few = let fewer = filter-fewer (λ (d : Document). not (is_nothing d)) draft.documents in omega (arith, few, fewer)

others-all : (draft : Draft) → AllByRecursion IsWhole draft.documents → AllByRecursion IsText draft.nothing → AllByRecursion IsText (writing.not_given draft)
others-all draft all nothing =
    all-append IsText (writing.types_of (writing.empty draft.documents)) draft.nothing
    (map-all IsText (λ (d : Document). d.answered.doc_type) (writing.empty draft.documents) (filter-all (λ (d : Document). IsText d.answered.doc_type) is_nothing draft.documents (types-all draft.documents all)))
    nothing

some-documents : (documents : List Document) → AllByRecursion IsWhole documents → length documents < 2 ^ 32 → IfSome (if_any documents (array_bytes (map writing.document_bytes documents))) (IsPiece 31)
some-documents [] all few = tt
some-documents (d ∷ documents) all few = documents-piece (d ∷ documents) all few

some-types : (types : List (List ℕ)) → AllByRecursion IsText types → length types < 2 ^ 32 → IfSome (if_any types (array_bytes (map document_error types))) (IsPiece 31)
some-types [] all few = tt
some-types (doc_type ∷ types) all few = piece-deeper 2 31 (array_bytes (map document_error (doc_type ∷ types))) (omega arith) (types-piece (doc_type ∷ types) all few)

-- ---- the response

record FullRead (draft : Draft) : Type 0 where
  piece : IsPiece 32 (named_map (writing.full_fields draft))
  read : reading.Response
  is : reading.response (record { at = 0; bytes = named_map (writing.full_fields draft) }) ≡ Ok read
  status : read.status ≡ draft.status
  documents : ReadsEach read.documents (writing.given draft.documents)
  errors : map plain_part read.errors ≡ map not_returned (writing.not_given draft)

versioned-read : (m : Part) (documents : List reading.Document) → IsUnder m keys.Version writing.version → reading.documents m ≡ Ok documents → reading.versioned m ≡ Ok (codes "1.0", documents)
versioned-read m documents v is = rw is (rw v.is (rw (tree-shortest (Text (codes "1.0")) (omega arith, utf8-ascii (codes "1.0") refl) (omega arith)) refl))

outcome-read : (m : Part) (errors : List (List ℕ × Part)) (status : ℕ) → status < 2 ^ 64 → IsUnder m keys.Status (uint_bytes status) → reading.document_errors m ≡ Ok errors → reading.outcome m ≡ Ok (errors, status)
outcome-read m errors status fits s is = rw is (rw s.is (rw (tree-shortest (Unsigned status) fits (omega arith)) refl))

full-read : (draft : Draft) → HasSpellings draft → IsSmall draft → draft.status < 2 ^ 64 → FullRead draft
unfolding reading.response
full-read draft has_spellings small fits =
    let whole = all-whole draft.documents has_spellings.documents small.each in
    let given = writing.given draft.documents in
    let others = writing.not_given draft in
    let documents = if_any given (array_bytes (map writing.document_bytes given)) in
    let errors = if_any others (array_bytes (map document_error others)) in
    let status = uint_bytes draft.status in
    let all = given-all draft whole in
    let few = given-few draft small.documents in
    let texts = others-all draft whole has_spellings.nothing in
    let has = by-fields documents errors status (some-documents given all few) (some-types others texts small.errors) (piece-shortest 0 (Unsigned draft.status) fits (omega arith)) in
    let m = map_of documents errors status in
    let d = documents-read m given all few has.has_documents in
    let e = document-errors-read m others texts small.errors has.has_errors in
    let first = versioned-read m d.read has.has_version d.is in
    let second = outcome-read m e.errors draft.status fits has.has_status e.is in
    record {
      piece = has.piece;
      read = record { status = draft.status; documents = d.read; errors = e.errors };
      is = rw (first, second) refl;
      status = refl;
      documents = d.reads;
      errors = e.same;
    }

pub response-back : (draft : Draft) → HasSpellings draft → IsSmall draft → draft.status ≡ 0 → ReadsBack (writing.response_bytes draft) draft
unfolding writing.response_bytes
response-back draft has_spellings small zero =
    let full = full-read draft has_spellings small (omega arith) in
    let written : (if draft.status == 0 then named_map (writing.full_fields draft) else named_map (writing.refusal_fields draft.status)) ≡ named_map (writing.full_fields draft) =
    ap (λ (b : Bool). if b then named_map (writing.full_fields draft) else named_map (writing.refusal_fields draft.status)) (eq-eqb draft.status 0 zero) in
    subst (λ (bytes : List ℕ). ReadsBack bytes draft) (sym written) (record {
      one = cbor-piece (named_map (writing.full_fields draft)) full.piece;
      read = full.read;
      is = full.is;
      status = full.status;
      documents = full.documents;
      errors = full.errors;
    })
