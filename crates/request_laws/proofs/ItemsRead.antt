-- An items request that was written is read as its document type and namespaces.
use Rattle.std.proofs.Common.{◌≡◌, ◌<◌, ◌≤◌, ◌^◌, ◌+◌, ℕ, true, List, [], ◌∷◌, length, Option, Some, None, Ok, refl, ap, arith}
use Rattle.std.specs.Prelude.{option_map}
use Rattle.mdoc_outside.specs.declared.key_name.KeyName.{KeyName}
use Rattle.mdoc_outside.specs.declared.key_name.KeyName.TheVariants as keys
use Rattle.mdoc_outside.specs.KeyName.{key_text}
use Rattle.cbor_view.specs.Parts.{Part, cbor, text_in}
use Rattle.cbor_view.specs.Shortest.{text_bytes}
use Rattle.cbor_view.specs.Tree.{Text}
use Rattle.cbor_view.proofs.WrittenParts.{ArePieces, IsPiece, cbor-piece, piece-deeper, piece-map, piece-shortest}
use Rattle.cbor_maps.specs.Reading.{any_in, field, map_in, optional_field}
use Rattle.cbor_maps.specs.Writing as writing
use Rattle.cbor_maps.specs.Writing.{Fields, named_map, spelled_keys, with_values}
use Rattle.cbor_maps.specs.WrittenReads.{AreItems, SpellsItem}
use Rattle.cbor_maps.proofs.WrittenMaps.{IsUnder, is_ascii, named-map, under, under-none, utf8-ascii}
use Rattle.doc_request.specs.declared.doc_draft.DocDraft.{DocDraft}
use Rattle.doc_request.specs.Asked.{items_fault, of_items_request}
use Rattle.doc_request.specs.Draft.{IsDocument}
use Rattle.doc_request.specs.Written.{items_map, spaces_bytes}
use Rattle.request_laws.specs.ReadBack.{grouped}
use Rattle.request_laws.proofs.Names.{name-piece, name-read}
use Rattle.request_laws.proofs.SpacesRead.{spaces-pairs, spaces-piece, spaces-sound, wishes-read}

-- ---- maps of named keys, of so many levels

pub key-piece : (d : ℕ) (name : KeyName) → length (key_text name) < 2 ^ 32 → is_ascii (key_text name) ≡ true → IsPiece d (writing.key_bytes name)
unfolding writing.key_bytes
key-piece d name short ascii = piece-shortest d (Text (key_text name)) (short, utf8-ascii (key_text name) ascii) (omega arith)

-- a value of at most 31 levels
pub value : (d : ℕ) (bytes : List ℕ) → d ≤ 31 → IsPiece d bytes → SpellsItem 31 bytes
value d bytes few p = let n = p.nesting in record { item = p.item; spells = record { spelled = p.spelled; nesting = omega arith }; nesting = omega arith }

pub named-piece : (d : ℕ) (fields : Fields) → ArePieces d (spelled_keys (with_values fields)) → length (spelled_keys (with_values fields)) < 2 ^ 32 → IsPiece (d + 1) (named_map fields)
named-piece d fields are few = rw (named-map fields) (piece-map d (spelled_keys (with_values fields)) are few)

-- ---- the map ItemsRequest

abbrev items_fields : DocDraft → Fields
items_fields draft = (keys.DocType, Some (text_bytes draft.doc_type)) ∷ (keys.NameSpaces, Some (spaces_bytes draft.wishes)) ∷ []

items-values : (draft : DocDraft) → IsDocument draft → AreItems (with_values (items_fields draft))
items-values draft is = (
  value 0 (text_bytes draft.doc_type) (omega arith) (name-piece 0 draft.doc_type is.doc_type),
  (value 2 (spaces_bytes draft.wishes) (omega arith) (spaces-piece draft.wishes is.wishes), tt),
)

pub items-piece : (draft : DocDraft) → IsDocument draft → IsPiece 3 (items_map draft)
unfolding items_map
items-piece draft is = named-piece 2 (items_fields draft) (
  key-piece 2 keys.DocType (omega arith) refl,
  name-piece 2 draft.doc_type is.doc_type,
  (key-piece 2 keys.NameSpaces (omega arith) refl, spaces-piece draft.wishes is.wishes, tt),
) (omega arith)

abbrev pub items_part : DocDraft → Part
items_part draft = record { at = 0; bytes = items_map draft }

pub items-cbor : (draft : DocDraft) → IsDocument draft → cbor (items_map draft) ≡ Ok (items_part draft)
items-cbor draft is = cbor-piece (items_map draft) (piece-deeper 3 32 (items_map draft) (omega arith) (items-piece draft is))

record HasFields (draft : DocDraft) : Type 0 where
  doc_type : IsUnder (items_part draft) keys.DocType (text_bytes draft.doc_type)
  spaces : IsUnder (items_part draft) keys.NameSpaces (spaces_bytes draft.wishes)
  info : optional_field keys.RequestInfo any_in (items_part draft) ≡ Ok None

has-fields : (draft : DocDraft) → IsDocument draft → HasFields draft
unfolding items_map
has-fields draft is = let are = items-values draft is in record {
  doc_type = under 0 (items_fields draft) keys.DocType (text_bytes draft.doc_type) are (omega arith) refl;
  spaces = under 0 (items_fields draft) keys.NameSpaces (spaces_bytes draft.wishes) are (omega arith) refl;
  info = rw (under-none 0 (items_fields draft) keys.RequestInfo are (omega arith) refl) refl;
}

-- what is read of it
pub record IsItems (draft : DocDraft) : Type 0 where
  pub at : ℕ
  pub doc_type : field keys.DocType text_in (items_part draft) ≡ Ok draft.doc_type
  pub spaces : field keys.NameSpaces map_in (items_part draft) ≡ Ok (record { at = at; bytes = spaces_bytes draft.wishes })
  pub info : optional_field keys.RequestInfo any_in (items_part draft) ≡ Ok None

spaces-map : (at : ℕ) (draft : DocDraft) → IsDocument draft → map_in (record { at = at; bytes = spaces_bytes draft.wishes }) ≡ Some (record { at = at; bytes = spaces_bytes draft.wishes })
spaces-map at draft is = ap (option_map (λ (entries : List (Part × Part)). record { at = at; bytes = spaces_bytes draft.wishes })) (spaces-pairs at draft.wishes is.wishes)

pub items-read : (draft : DocDraft) → IsDocument draft → IsItems draft
items-read draft is =
    let has = has-fields draft is in
    let d = has.doc_type in
    let s = has.spaces in
    record {
      at = s.at;
      doc_type = rw d.is (rw (name-read d.at draft.doc_type is.doc_type) refl);
      spaces = rw s.is (rw (spaces-map s.at draft is) refl);
      info = has.info;
    }

pub items-sound : (draft : DocDraft) → IsDocument draft → items_fault (items_part draft) ≡ None
items-sound draft is =
    let read = items-read draft is in
    rw (read.doc_type, read.spaces, read.info) (rw (spaces-sound read.at draft.wishes is.wishes is.some) refl)

pub items-document : (draft : DocDraft) (tagged : List ℕ) (auth : Option Part) → IsDocument draft → of_items_request tagged auth (items_part draft) ≡ Some (record { doc_type = draft.doc_type; items = tagged; reader_auth = auth; wishes = grouped draft.wishes })
items-document draft tagged auth is =
    let read = items-read draft is in
    rw (read.doc_type, read.spaces) (rw (wishes-read read.at draft.wishes is.wishes) refl)
