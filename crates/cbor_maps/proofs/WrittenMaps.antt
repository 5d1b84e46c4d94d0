-- A map that was written is read as its fields.
use Rattle.std.proofs.Common.{◌≡◌, ℕ, zero, suc, nat_lt, get_or, ◌+◌, ◌<◌, ◌^◌, if◌then◌else◌, Bool, true, false, List, [], ◌∷◌, ◌++◌, length, bytes_eq, Option, Some, None, Result, Ok, Err, refl, sym, ap, ◌∙◌, arith}
use Rattle.std.specs.Prelude.{flat_map, map, IsUtf8}
use Rattle.std.specs.List.{list_all}
use Rattle.std.proofs.lemmas.List.{append_assoc, append-nil}
use Rattle.std.proofs.lemmas.Bool.{and_parts, ltb-true}
use Rattle.std.proofs.lemmas.Str.{IsUtf8-from_ascii}
use Rattle.mdoc_outside.specs.declared.key_name.KeyName.{KeyName}
use Rattle.mdoc_outside.specs.declared.key_name.KeyName.TheVariants.{DigestId, Random, ElementIdentifier, ElementValue, Version, DigestAlgorithm, ValueDigests, DeviceKeyInfo, DeviceKey, DocType, ValidityInfo, Signed, ValidFrom, ValidUntil, ExpectedUpdate, DocRequests, ItemsRequest, ReaderAuth, NameSpaces, RequestInfo, Documents, DocumentErrors, Status, IssuerSigned, DeviceSigned, Errors, IssuerAuth, DeviceAuth, DeviceSignature, DeviceMac, EReaderKey, Data, Auth, Copies, Key, Used}
use Rattle.mdoc_outside.specs.KeyName.{key_text}
use Rattle.cbor_view.specs.declared.doubled.Doubled.{Doubled}
use Rattle.cbor_view.specs.Label.{Words, values_of, only_of}
use Rattle.cbor_view.specs.Parts.{Part, tree_in}
use Rattle.cbor_view.specs.Reading.{tree_of}
use Rattle.cbor_view.specs.Shortest.{bytes_bytes, map_bytes, shortest_head}
use Rattle.cbor_view.specs.Spelling.{Fits}
use Rattle.cbor_view.specs.Tree.{Bytes, Tag, Text}
use Rattle.cbor_view.proofs.WrittenParts.{tag-written, IsPiece, piece-shortest, ArePieces, entries_from, pairs_begin, pairs-written, piece-map, tree-shortest}
use Rattle.cbor_maps.specs.Reading.{entry, encoded_in}
use Rattle.cbor_maps.specs.Writing.{Fields, with_values, key_bytes, map_head, onto, named_map, spelled_keys, encoded_bytes}
use Rattle.cbor_maps.specs.WrittenReads.{AreItems, values_named, bytes_under}
use Rattle.cbor_maps.proofs.Walking.{entry-pairs}

-- ---- the bytes of a map

abbrev pub both : List ℕ × List ℕ → List ℕ
both e = e.0 ++ e.1

onto-bytes : (bytes : List ℕ) (fields : Fields) → onto bytes fields ≡ bytes ++ flat_map both (spelled_keys (with_values fields))
onto-bytes bytes [] = sym (append-nil bytes)
onto-bytes bytes ((name, None) ∷ fields) = onto-bytes bytes fields
onto-bytes bytes ((name, Some value) ∷ fields) =
    onto-bytes (bytes ++ key_bytes name ++ value) fields
    ∙ ap (λ (x : List ℕ). x ++ flat_map both (spelled_keys (with_values fields))) (append_assoc bytes (key_bytes name) value)
    ∙ append_assoc bytes (key_bytes name ++ value) (flat_map both (spelled_keys (with_values fields)))

keys-length : (fields : List (KeyName × List ℕ)) → length (spelled_keys fields) ≡ length fields
keys-length [] = refl
keys-length (field ∷ fields) = ap suc (keys-length fields)

pub named-map : (fields : Fields) → named_map fields ≡ map_bytes (spelled_keys (with_values fields))
unfolding map_head
named-map fields =
    onto-bytes (shortest_head 5 (length (with_values fields))) fields
    ∙ ap (λ n. shortest_head 5 n ++ flat_map both (spelled_keys (with_values fields))) (sym (keys-length (with_values fields)))

-- ---- its keys are items

-- texts of ASCII are UTF-8
abbrev pub is_ascii : List ℕ → Bool
is_ascii text = list_all (λ b. nat_lt b 128) text

ascii-each : (text : List ℕ) → is_ascii text ≡ true → (i : ℕ) → get_or text i 0 < 128
ascii-each [] e i = omega arith
ascii-each (b ∷ bs) e zero = ltb-true b 128 (and_parts (nat_lt b 128) (is_ascii bs) e).0
ascii-each (b ∷ bs) e (suc i) = ascii-each bs (and_parts (nat_lt b 128) (is_ascii bs) e).1 i

pub utf8-ascii : (text : List ℕ) → is_ascii text ≡ true → IsUtf8 text
utf8-ascii text e = IsUtf8-from_ascii text (ascii-each text e)

key-ascii : (name : KeyName) → is_ascii (key_text name) ≡ true
key-ascii DigestId = refl
key-ascii Random = refl
key-ascii ElementIdentifier = refl
key-ascii ElementValue = refl
key-ascii Version = refl
key-ascii DigestAlgorithm = refl
key-ascii ValueDigests = refl
key-ascii DeviceKeyInfo = refl
key-ascii DeviceKey = refl
key-ascii DocType = refl
key-ascii ValidityInfo = refl
key-ascii Signed = refl
key-ascii ValidFrom = refl
key-ascii ValidUntil = refl
key-ascii ExpectedUpdate = refl
key-ascii DocRequests = refl
key-ascii ItemsRequest = refl
key-ascii ReaderAuth = refl
key-ascii NameSpaces = refl
key-ascii RequestInfo = refl
key-ascii Documents = refl
key-ascii DocumentErrors = refl
key-ascii Status = refl
key-ascii IssuerSigned = refl
key-ascii DeviceSigned = refl
key-ascii Errors = refl
key-ascii IssuerAuth = refl
key-ascii DeviceAuth = refl
key-ascii DeviceSignature = refl
key-ascii DeviceMac = refl
key-ascii EReaderKey = refl
key-ascii Data = refl
key-ascii Auth = refl
key-ascii Copies = refl
key-ascii Key = refl
key-ascii Used = refl

key-short : (name : KeyName) → length (key_text name) < 2 ^ 32
key-short DigestId = omega arith
key-short Random = omega arith
key-short ElementIdentifier = omega arith
key-short ElementValue = omega arith
key-short Version = omega arith
key-short DigestAlgorithm = omega arith
key-short ValueDigests = omega arith
key-short DeviceKeyInfo = omega arith
key-short DeviceKey = omega arith
key-short DocType = omega arith
key-short ValidityInfo = omega arith
key-short Signed = omega arith
key-short ValidFrom = omega arith
key-short ValidUntil = omega arith
key-short ExpectedUpdate = omega arith
key-short DocRequests = omega arith
key-short ItemsRequest = omega arith
key-short ReaderAuth = omega arith
key-short NameSpaces = omega arith
key-short RequestInfo = omega arith
key-short Documents = omega arith
key-short DocumentErrors = omega arith
key-short Status = omega arith
key-short IssuerSigned = omega arith
key-short DeviceSigned = omega arith
key-short Errors = omega arith
key-short IssuerAuth = omega arith
key-short DeviceAuth = omega arith
key-short DeviceSignature = omega arith
key-short DeviceMac = omega arith
key-short EReaderKey = omega arith
key-short Data = omega arith
key-short Auth = omega arith
key-short Copies = omega arith
key-short Key = omega arith
key-short Used = omega arith

key-fits : (name : KeyName) → Fits (Text (key_text name))
key-fits name = (key-short name, utf8-ascii (key_text name) (key-ascii name))

pub tree-key : (name : KeyName) → tree_of (key_bytes name) ≡ Text (key_text name)
unfolding key_bytes
tree-key name = tree-shortest (Text (key_text name)) (key-fits name) (omega arith)

piece-key : (name : KeyName) → IsPiece 31 (key_bytes name)
unfolding key_bytes
piece-key name = piece-shortest 31 (Text (key_text name)) (key-fits name) (omega arith)

pieces : (fields : List (KeyName × List ℕ)) → AreItems fields → ArePieces 31 (spelled_keys fields)
pieces [] are = tt
pieces (field ∷ fields) are = let v = are.0 in (piece-key field.0, record { item = v.item; spelled = v.spells.spelled; nesting = v.nesting }, pieces fields are.1)

-- the map is one item
pub piece-named : (fields : Fields) → AreItems (with_values fields) → length (with_values fields) < 2 ^ 32 → IsPiece 32 (named_map fields)
piece-named fields are few = rw (named-map fields) (piece-map 31 (spelled_keys (with_values fields)) (pieces (with_values fields) are) (rw (keys-length (with_values fields)) few))

-- ---- what is under its keys

abbrev pub part_bytes : Part → List ℕ
part_bytes p = p.bytes

values-named : (name : KeyName) (at : ℕ) (fields : List (KeyName × List ℕ)) → map part_bytes (values_of tree_in (Words (key_text name)) (entries_from at (spelled_keys fields))) ≡ values_named name fields
values-named name at [] = refl
values-named name at (field ∷ fields) =
    let others = values-named name (at + length (key_bytes field.0) + length field.1) fields in
    rw (tree-key field.0)
    (elim (bytes_eq (key_text field.0) (key_text name)) as (λ b. map part_bytes (if b then (record { at = at + length (key_bytes field.0); bytes = field.1 }) ∷ values_of tree_in (Words (key_text name)) (entries_from (at + length (key_bytes field.0) + length field.1) (spelled_keys fields)) else values_of tree_in (Words (key_text name)) (entries_from (at + length (key_bytes field.0) + length field.1) (spelled_keys fields))) ≡ (if b then field.1 ∷ values_named name fields else values_named name fields)) [
      | true ↦ ap (λ (x : List (List ℕ)). field.1 ∷ x) others
      | false ↦ others
    ])

pub only-bytes : (parts : List Part) → bytes_under (only_of parts) ≡ only_of (map part_bytes parts)
only-bytes [] = refl
only-bytes (p ∷ []) = refl
only-bytes (p ∷ (q ∷ ps)) = refl

pub written-field : (at : ℕ) (fields : Fields) (name : KeyName) → AreItems (with_values fields) → length (with_values fields) < 2 ^ 32 → bytes_under (entry (record { at = at; bytes = named_map fields }) name) ≡ only_of (values_named name (with_values fields))
written-field at fields name are few =
    let es = spelled_keys (with_values fields) in
    let pairs = pairs-written 31 es at (pieces (with_values fields) are) (omega arith) (rw (keys-length (with_values fields)) few) in
    rw (named-map fields)
    (ap bytes_under (entry-pairs (record { at = at; bytes = map_bytes es }) name (entries_from (pairs_begin at es) es) pairs)
    ∙ only-bytes (values_of tree_in (Words (key_text name)) (entries_from (pairs_begin at es) es))
    ∙ ap only_of (values-named name (pairs_begin at es) (with_values fields)))

-- the one value under a name, wherever it is
pub record IsUnder (map : Part) (name : KeyName) (value : List ℕ) : Type 0 where
  pub at : ℕ
  pub is : entry map name ≡ Ok (Some (record { at = at; bytes = value }))

pub one-value : (r : Result (Option Part) Doubled) (value : List ℕ) → bytes_under r ≡ Ok (Some value) → (at : ℕ) × (r ≡ Ok (Some (record { at = at; bytes = value })))
one-value (Ok (Some p)) value e = let same : p.bytes ≡ value = cc in (p.at, ap (λ (b : List ℕ). Ok (Some (record { at = p.at; bytes = b }))) same)
one-value (Ok None) value e = absurd (cc)
one-value (Err d) value e = absurd (cc)

pub under : (at : ℕ) (fields : Fields) (name : KeyName) (value : List ℕ) → AreItems (with_values fields) → length (with_values fields) < 2 ^ 32 → only_of (values_named name (with_values fields)) ≡ Ok (Some value) → IsUnder (record { at = at; bytes = named_map fields }) name value
under at fields name value are few one =
    let v = one-value (entry (record { at = at; bytes = named_map fields }) name) value (written-field at fields name are few ∙ one) in
    record { at = v.0; is = v.1 }

pub no-value : (r : Result (Option Part) Doubled) → bytes_under r ≡ Ok None → r ≡ Ok None
no-value (Ok (Some p)) e = absurd (cc)
no-value (Ok None) e = refl
no-value (Err d) e = absurd (cc)

pub under-none : (at : ℕ) (fields : Fields) (name : KeyName) → AreItems (with_values fields) → length (with_values fields) < 2 ^ 32 → only_of (values_named name (with_values fields)) ≡ Ok None → entry (record { at = at; bytes = named_map fields }) name ≡ Ok None
under-none at fields name are few none = no-value (entry (record { at = at; bytes = named_map fields }) name) (written-field at fields name are few ∙ none)

-- ---- encoded CBOR

pub piece-encoded : (inside : List ℕ) → length inside < 2 ^ 32 → IsPiece 1 (encoded_bytes inside)
piece-encoded inside short = piece-shortest 1 (Tag 24 (Bytes inside)) (omega arith, short) (omega arith)

pub encoded-again : (at : ℕ) (inside : List ℕ) → length inside < 2 ^ 32 → encoded_in (record { at = at; bytes = encoded_bytes inside }) ≡ Some inside
encoded-again at inside short =
    rw (tag-written 24 at (bytes_bytes inside) (omega arith))
    (rw (tree-shortest (Bytes inside) short (omega arith)) refl)
