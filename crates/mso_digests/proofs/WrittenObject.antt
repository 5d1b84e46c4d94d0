-- A security object that was written is read as it was given.
use Rattle.std.proofs.Common.{◌≡◌, ℕ, ◌+◌, ◌<◌, ◌≤◌, ◌^◌, true, ℤ, pos, negsuc, List, [], ◌∷◌, length, Option, Some, None, Ok, refl, ap, arith}
use Rattle.std.specs.Prelude.{codes, IsUtf8, IfSome, option_map}
use Rattle.key_device.specs.declared.point.Point.{Point}
use Rattle.mdoc_outside.specs.KeyName.{key_text}
use Rattle.mdoc_outside.specs.declared.key_name.KeyName.{KeyName}
use Rattle.mdoc_outside.specs.declared.key_name.KeyName.TheVariants as keys
use Rattle.cbor_view.specs.Parts.{Part, pairs_in, text_in}
use Rattle.cbor_view.specs.Shortest.{bytes_bytes, text_bytes, uint_bytes}
use Rattle.cbor_view.specs.Tree.{Unsigned, Bytes, Text}
use Rattle.cbor_view.proofs.WrittenParts.{IsPiece, piece-deeper, piece-shortest, ArePieces, entries_from, pairs_begin, pairs-written, piece-map, cbor-piece, tree-shortest}
use Rattle.cbor_maps.specs.Reading.{map_in, distinct}
use Rattle.cbor_maps.specs.Writing as writing
use Rattle.cbor_maps.specs.Writing.{Fields, with_values, spelled_keys, named_map}
use Rattle.cbor_maps.specs.WrittenReads.{SpellsItem, AreItems}
use Rattle.cbor_maps.proofs.LabelledMaps.{piece-of-fields, piece-label}
use Rattle.cbor_maps.proofs.WrittenMaps.{IsUnder, under, under-none, piece-named, piece-encoded, encoded-again, named-map, is_ascii, utf8-ascii}
use Rattle.cose_msgs.specs.Written.{key_bytes}
use Rattle.cose_msgs.proofs.WrittenKeys.{IsPoint}
use Rattle.mdl_table.specs.MomentText.{IsInYears}
use Rattle.mso_digests.specs.Object.{Contents, Validity, object, object_of_map, validity_names, distinct_keys, contents_of, validity_of, object_with, moments_of}
use Rattle.mso_digests.specs.Written.{Draft, digests_bytes, date_bytes, validity_map, key_map, object_map, object_bytes, drafted, AreInYears}
use Rattle.mso_digests.proofs.WrittenDates.{HasDate, has-date, dated, date-piece, date-read}
use Rattle.mso_digests.proofs.WrittenDigests.{AreWritable, digests-piece, digests-read}

-- ---- maps of named keys, of so many levels

key-piece : (d : ℕ) (name : KeyName) → length (key_text name) < 2 ^ 32 → is_ascii (key_text name) ≡ true → IsPiece d (writing.key_bytes name)
unfolding writing.key_bytes
key-piece d name short ascii = piece-shortest d (Text (key_text name)) (short, utf8-ascii (key_text name) ascii) (omega arith)

-- a value of at most 31 levels
item : (d : ℕ) (bytes : List ℕ) → d ≤ 31 → IsPiece d bytes → SpellsItem 31 bytes
item d bytes few p = let n = p.nesting in record { item = p.item; spells = record { spelled = p.spelled; nesting = omega arith }; nesting = omega arith }

named-piece : (d : ℕ) (fields : Fields) → ArePieces d (spelled_keys (with_values fields)) → length (spelled_keys (with_values fields)) < 2 ^ 32 → IsPiece (d + 1) (named_map fields)
named-piece d fields are few = rw (named-map fields) (piece-map d (spelled_keys (with_values fields)) are few)

named-is-map : (d at : ℕ) (fields : Fields) → ArePieces d (spelled_keys (with_values fields)) → d ≤ 32 → length (spelled_keys (with_values fields)) < 2 ^ 32 → map_in (record { at = at; bytes = named_map fields }) ≡ Some (record { at = at; bytes = named_map fields })
named-is-map d at fields are low few =
    let es = spelled_keys (with_values fields) in
    let pairs : pairs_in (record { at = at; bytes = named_map fields }) ≡ Some (entries_from (pairs_begin at es) es) = rw (named-map fields) (pairs-written d es at are low few) in
    ap (option_map (λ (entries : List (Part × Part)). record { at = at; bytes = named_map fields })) pairs

-- ---- the device key

cose-piece : (p : Point) → IsPoint p → IsPiece 1 (key_bytes p)
unfolding key_bytes
cose-piece p is =
    let x = is.x in
    let y = is.y in
    piece-of-fields 0 ((pos 1, Some (uint_bytes 2)) ∷ (negsuc 0, Some (uint_bytes 1)) ∷ (negsuc 1, Some (bytes_bytes p.x)) ∷ (negsuc 2, Some (bytes_bytes p.y)) ∷ []) (
      piece-label 0 (pos 1) (omega arith),
      piece-shortest 0 (Unsigned 2) (omega arith) (omega arith),
      (
        piece-label 0 (negsuc 0) (omega arith),
        piece-shortest 0 (Unsigned 1) (omega arith) (omega arith),
        (
          piece-label 0 (negsuc 1) (omega arith),
          piece-shortest 0 (Bytes p.x) (omega arith) (omega arith),
          (piece-label 0 (negsuc 2) (omega arith), piece-shortest 0 (Bytes p.y) (omega arith) (omega arith), tt),
        ),
      ),
    ) (omega arith)

abbrev key_fields : Point → Fields
key_fields p = (keys.DeviceKey, Some (key_bytes p)) ∷ []

key-pieces : (p : Point) → IsPoint p → ArePieces 1 (spelled_keys (with_values (key_fields p)))
key-pieces p is = (key-piece 1 keys.DeviceKey (omega arith) refl, cose-piece p is, tt)

key-map-piece : (p : Point) → IsPoint p → IsPiece 2 (key_map p)
unfolding key_map
key-map-piece p is = named-piece 1 (key_fields p) (key-pieces p is) (omega arith)

key-is-map : (at : ℕ) (p : Point) → IsPoint p → map_in (record { at = at; bytes = key_map p }) ≡ Some (record { at = at; bytes = key_map p })
unfolding key_map
key-is-map at p is = named-is-map 1 at (key_fields p) (key-pieces p is) (omega arith) (omega arith)

key-under : (at : ℕ) (p : Point) → IsPoint p → IsUnder (record { at = at; bytes = key_map p }) keys.DeviceKey (key_bytes p)
unfolding key_map
key-under at p is = under at (key_fields p) keys.DeviceKey (key_bytes p) (item 1 (key_bytes p) (omega arith) (cose-piece p is), tt) (omega arith) refl

-- ---- the validity

abbrev validity_fields : List ℕ → List ℕ → List ℕ → Option (List ℕ) → Fields
validity_fields signed from until update = (keys.Signed, Some (dated signed)) ∷ (keys.ValidFrom, Some (dated from)) ∷ (keys.ValidUntil, Some (dated until)) ∷ (keys.ExpectedUpdate, option_map dated update) ∷ []

-- a validity as it is written, with the texts of its moments
record IsValidity (signed from until : ℤ) (update : Option ℤ) : Type 0 where
  texts : Validity
  piece : IsPiece 2 (validity_map signed from until update)
  is_map : (at : ℕ) → map_in (record { at = at; bytes = validity_map signed from until update }) ≡ Some (record { at = at; bytes = validity_map signed from until update })
  distinct : (at : ℕ) → distinct validity_names (record { at = at; bytes = validity_map signed from until update }) ≡ Ok tt
  read : (at : ℕ) → validity_of (record { at = at; bytes = validity_map signed from until update }) ≡ Ok texts
  moments : moments_of texts ≡ Ok (record { signed = signed; from = from; until = until })

three-pieces : (a b c : List ℕ) → IsPiece 1 (dated a) → IsPiece 1 (dated b) → IsPiece 1 (dated c) → ArePieces 1 (spelled_keys (with_values (validity_fields a b c None)))
three-pieces a b c pa pb pc = (key-piece 1 keys.Signed (omega arith) refl, pa, (key-piece 1 keys.ValidFrom (omega arith) refl, pb, (key-piece 1 keys.ValidUntil (omega arith) refl, pc, tt)))

four-pieces : (a b c e : List ℕ) → IsPiece 1 (dated a) → IsPiece 1 (dated b) → IsPiece 1 (dated c) → IsPiece 1 (dated e) → ArePieces 1 (spelled_keys (with_values (validity_fields a b c (Some e))))
four-pieces a b c e pa pb pc pe = (key-piece 1 keys.Signed (omega arith) refl, pa, (key-piece 1 keys.ValidFrom (omega arith) refl, pb, (key-piece 1 keys.ValidUntil (omega arith) refl, pc, (key-piece 1 keys.ExpectedUpdate (omega arith) refl, pe, tt))))

three-map : (signed from until : ℤ) (a b c : List ℕ) → date_bytes signed ≡ Some (dated a) → date_bytes from ≡ Some (dated b) → date_bytes until ≡ Some (dated c) → validity_map signed from until None ≡ named_map (validity_fields a b c None)
unfolding validity_map
three-map signed from until a b c ea eb ec = rw (ea, eb, ec) refl

four-map : (signed from until update : ℤ) (a b c e : List ℕ) → date_bytes signed ≡ Some (dated a) → date_bytes from ≡ Some (dated b) → date_bytes until ≡ Some (dated c) → date_bytes update ≡ Some (dated e) → validity_map signed from until (Some update) ≡ named_map (validity_fields a b c (Some e))
unfolding validity_map
four-map signed from until update a b c e ea eb ec ee = rw (ea, eb, ec, ee) refl

three-moments : (signed from until : ℤ) → HasDate signed → HasDate from → HasDate until → IsValidity signed from until None
three-moments signed from until s f u =
    let fields = validity_fields s.text f.text u.text None in
    let ps = date-piece signed s.text s.is in
    let pf = date-piece from f.text f.is in
    let pu = date-piece until u.text u.is in
    let are : AreItems (with_values fields) = (item 1 (dated s.text) (omega arith) ps, (item 1 (dated f.text) (omega arith) pf, (item 1 (dated u.text) (omega arith) pu, tt))) in
    let pieces = three-pieces s.text f.text u.text ps pf pu in
    let map = three-map signed from until s.text f.text u.text s.bytes f.bytes u.bytes in
    let us = λ (at : ℕ). under at fields keys.Signed (dated s.text) are (omega arith) refl in
    let uf = λ (at : ℕ). under at fields keys.ValidFrom (dated f.text) are (omega arith) refl in
    let uu = λ (at : ℕ). under at fields keys.ValidUntil (dated u.text) are (omega arith) refl in
    let none = λ (at : ℕ). under-none at fields keys.ExpectedUpdate are (omega arith) refl in
    record {
      texts = record { signed = s.text; from = f.text; until = u.text; update = None };
      piece = rw map (named-piece 1 fields pieces (omega arith));
      is_map = λ at. rw map (named-is-map 1 at fields pieces (omega arith) (omega arith));
      distinct = λ at. let a = us at in let b = uf at in let c = uu at in rw map (rw (a.is, b.is, c.is, none at) refl);
      read = λ at. let a = us at in let b = uf at in let c = uu at in rw map (rw (a.is, b.is, c.is, none at) (rw (date-read a.at signed s.text s.is, date-read b.at from f.text f.is, date-read c.at until u.text u.is) refl));
      moments = let a = s.is in let b = f.is in let c = u.is in rw (a.moment_is, b.moment_is, c.moment_is) refl;
    }

four-moments : (signed from until update : ℤ) → HasDate signed → HasDate from → HasDate until → HasDate update → IsValidity signed from until (Some update)
four-moments signed from until update s f u n =
    let fields = validity_fields s.text f.text u.text (Some n.text) in
    let ps = date-piece signed s.text s.is in
    let pf = date-piece from f.text f.is in
    let pu = date-piece until u.text u.is in
    let pn = date-piece update n.text n.is in
    let are : AreItems (with_values fields) = (item 1 (dated s.text) (omega arith) ps, (item 1 (dated f.text) (omega arith) pf, (item 1 (dated u.text) (omega arith) pu, (item 1 (dated n.text) (omega arith) pn, tt)))) in
    let pieces = four-pieces s.text f.text u.text n.text ps pf pu pn in
    let map = four-map signed from until update s.text f.text u.text n.text s.bytes f.bytes u.bytes n.bytes in
    let us = λ (at : ℕ). under at fields keys.Signed (dated s.text) are (omega arith) refl in
    let uf = λ (at : ℕ). under at fields keys.ValidFrom (dated f.text) are (omega arith) refl in
    let uu = λ (at : ℕ). under at fields keys.ValidUntil (dated u.text) are (omega arith) refl in
    let un = λ (at : ℕ). under at fields keys.ExpectedUpdate (dated n.text) are (omega arith) refl in
    record {
      texts = record { signed = s.text; from = f.text; until = u.text; update = Some n.text };
      piece = rw map (named-piece 1 fields pieces (omega arith));
      is_map = λ at. rw map (named-is-map 1 at fields pieces (omega arith) (omega arith));
      distinct = λ at. let a = us at in let b = uf at in let c = uu at in let d = un at in rw map (rw (a.is, b.is, c.is, d.is) refl);
      read = λ at. let a = us at in let b = uf at in let c = uu at in let d = un at in rw map (rw (a.is, b.is, c.is, d.is) (rw (date-read a.at signed s.text s.is, date-read b.at from f.text f.is, date-read c.at until u.text u.is, date-read d.at update n.text n.is) refl));
      moments = let a = s.is in let b = f.is in let c = u.is in let d = n.is in rw (a.moment_is, b.moment_is, c.moment_is, d.moment_is) refl;
    }

validity-is : (signed from until : ℤ) (update : Option ℤ) → IsInYears signed → IsInYears from → IsInYears until → IfSome update IsInYears → IsValidity signed from until update
validity-is signed from until None s f u n = three-moments signed from until (has-date signed s) (has-date from f) (has-date until u)
validity-is signed from until (Some update) s f u n = four-moments signed from until update (has-date signed s) (has-date from f) (has-date until u) (has-date update n)

-- ---- the object

-- what can be written
pub record IsWritable (d : Draft) : Type 0 where
  pub digests : AreWritable d.digests
  pub key : IsPoint d.device_key
  pub years : AreInYears d
  pub doc_short : length d.doc_type < 2 ^ 32
  pub doc_text : IsUtf8 d.doc_type
  pub short : length (object_map d) < 2 ^ 32

abbrev object_fields : Draft → Fields
object_fields d =
    (keys.Version, Some (text_bytes (codes "1.0"))) ∷ (keys.DigestAlgorithm, Some (text_bytes (codes "SHA-256")))
    ∷ (keys.ValueDigests, Some (digests_bytes d.digests)) ∷ (keys.DeviceKeyInfo, Some (key_map d.device_key))
    ∷ (keys.DocType, Some (text_bytes d.doc_type)) ∷ (keys.ValidityInfo, Some (validity_map d.signed d.from d.until d.update)) ∷ []

draft-validity : (d : Draft) → IsWritable d → IsValidity d.signed d.from d.until d.update
draft-validity d is = let y = is.years in validity-is d.signed d.from d.until d.update y.signed y.from y.until y.update

version-piece : IsPiece 0 (text_bytes (codes "1.0"))
version-piece = piece-shortest 0 (Text (codes "1.0")) (omega arith, utf8-ascii (codes "1.0") refl) (omega arith)

algorithm-piece : IsPiece 0 (text_bytes (codes "SHA-256"))
algorithm-piece = piece-shortest 0 (Text (codes "SHA-256")) (omega arith, utf8-ascii (codes "SHA-256") refl) (omega arith)

are-items : (d : Draft) → IsWritable d → AreItems (with_values (object_fields d))
are-items d is = let v = draft-validity d is in (
  item 0 (text_bytes (codes "1.0")) (omega arith) version-piece,
  (
    item 0 (text_bytes (codes "SHA-256")) (omega arith) algorithm-piece,
    (
      item 2 (digests_bytes d.digests) (omega arith) (digests-piece d.digests is.digests),
      (
        item 2 (key_map d.device_key) (omega arith) (key-map-piece d.device_key is.key),
        (
          item 0 (text_bytes d.doc_type) (omega arith) (piece-shortest 0 (Text d.doc_type) (is.doc_short, is.doc_text) (omega arith)),
          (item 2 (validity_map d.signed d.from d.until d.update) (omega arith) v.piece, tt),
        ),
      ),
    ),
  ),
)

abbrev map_at : Draft → Part
map_at d = record { at = 0; bytes = object_map d }

record HasFields (d : Draft) : Type 0 where
  version : IsUnder (map_at d) keys.Version (text_bytes (codes "1.0"))
  algorithm : IsUnder (map_at d) keys.DigestAlgorithm (text_bytes (codes "SHA-256"))
  digests : IsUnder (map_at d) keys.ValueDigests (digests_bytes d.digests)
  info : IsUnder (map_at d) keys.DeviceKeyInfo (key_map d.device_key)
  doc_type : IsUnder (map_at d) keys.DocType (text_bytes d.doc_type)
  validity : IsUnder (map_at d) keys.ValidityInfo (validity_map d.signed d.from d.until d.update)

has-fields : (d : Draft) → IsWritable d → HasFields d
unfolding object_map
has-fields d is = let are = are-items d is in record {
  version = under 0 (object_fields d) keys.Version (text_bytes (codes "1.0")) are (omega arith) refl;
  algorithm = under 0 (object_fields d) keys.DigestAlgorithm (text_bytes (codes "SHA-256")) are (omega arith) refl;
  digests = under 0 (object_fields d) keys.ValueDigests (digests_bytes d.digests) are (omega arith) refl;
  info = under 0 (object_fields d) keys.DeviceKeyInfo (key_map d.device_key) are (omega arith) refl;
  doc_type = under 0 (object_fields d) keys.DocType (text_bytes d.doc_type) are (omega arith) refl;
  validity = under 0 (object_fields d) keys.ValidityInfo (validity_map d.signed d.from d.until d.update) are (omega arith) refl;
}

keys-again : (d : Draft) → IsWritable d → HasFields d → distinct_keys (map_at d) ≡ Ok tt
keys-again d is has =
    let a = has.version in
    let b = has.algorithm in
    let c = has.digests in
    let e = has.info in
    let f = has.doc_type in
    let g = has.validity in
    let key = key-under e.at d.device_key is.key in
    let validity = draft-validity d is in
    let read = digests-read c.at d.digests is.digests in
    rw (a.is, b.is, c.is, e.is, f.is, g.is) (rw (read.distinct, key.is, validity.distinct g.at) refl)

abbrev contents : (d : Draft) → ℕ → Validity → Contents
contents d at texts = record { version = codes "1.0"; algorithm = codes "SHA-256"; digests = record { at = at; bytes = digests_bytes d.digests }; device_key = key_bytes d.device_key; doc_type = d.doc_type; validity = texts }

text-read : (at : ℕ) (text : List ℕ) → length text < 2 ^ 32 → IsUtf8 text → text_in (record { at = at; bytes = text_bytes text }) ≡ Some text
text-read at text short utf8 = rw (tree-shortest (Text text) (short, utf8) (omega arith)) refl

contents-again : (d : Draft) (is : IsWritable d) (has : HasFields d) → contents_of (map_at d) ≡ Ok (contents d has.digests.at (draft-validity d is).texts)
contents-again d is has =
    let a = has.version in
    let b = has.algorithm in
    let c = has.digests in
    let e = has.info in
    let f = has.doc_type in
    let g = has.validity in
    let key = key-under e.at d.device_key is.key in
    let validity = draft-validity d is in
    let read = digests-read c.at d.digests is.digests in
    rw (a.is, b.is, c.is, e.is, f.is, g.is)
    (rw (text-read a.at (codes "1.0") (omega arith) (utf8-ascii (codes "1.0") refl), text-read b.at (codes "SHA-256") (omega arith) (utf8-ascii (codes "SHA-256") refl), read.map)
    (rw (key-is-map e.at d.device_key is.key)
    (rw (key.is, text-read f.at d.doc_type is.doc_short is.doc_text, validity.is_map g.at)
    (rw (validity.read g.at) refl))))

values-again : (d : Draft) (is : IsWritable d) (at : ℕ) → object_with (contents d at (draft-validity d is).texts) ≡ Ok (drafted d)
values-again d is at =
    let validity = draft-validity d is in
    let read = digests-read at d.digests is.digests in
    rw (read.lengths, validity.moments) (rw (read.digests) refl)

piece-of-map : (d : Draft) → IsWritable d → IsPiece 32 (object_map d)
unfolding object_map
piece-of-map d is = piece-named (object_fields d) (are-items d is) (omega arith)

map-again : (d : Draft) → IsWritable d → object_of_map (map_at d) ≡ Ok (drafted d)
map-again d is =
    let has = has-fields d is in
    rw (keys-again d is has) (rw (contents-again d is has) (values-again d is has.digests.at))

pub object-written : (d : Draft) → IsWritable d → object (object_bytes d) ≡ Ok (drafted d)
unfolding object
object-written d is =
    rw (cbor-piece (object_bytes d) (piece-deeper 1 32 (object_bytes d) (omega arith) (piece-encoded (object_map d) is.short)))
    (rw (encoded-again 0 (object_map d) is.short)
    (rw (cbor-piece (object_map d) (piece-of-map d is))
    (rw (map-again d is) refl)))
