-- An engagement that was written is read as its point.
use Rattle.std.proofs.Common.{◌≡◌, ◌<◌, ◌≤◌, ◌^◌, ℕ, true, false, pos, List, [], ◌∷◌, ◌++◌, length, Option, Some, None, Ok, option_map, refl, ap, ◌∙◌, arith, codes, inl}
use Rattle.std.specs.Prelude.{IfSome}
use Rattle.std.proofs.lemmas.List.{length-append}
use Rattle.key_device.specs.declared.point.Point.{Point}
use Rattle.cbor_view.specs.Parts.{Part}
use Rattle.cbor_view.specs.Shortest.{array_bytes, boolean_bytes, bytes_bytes, text_bytes, uint_bytes}
use Rattle.cbor_view.specs.Tree.{Unsigned, Bytes, Simple, Text}
use Rattle.cbor_view.proofs.WrittenParts.{IsPiece, AllPieces, ArePieces, cbor-piece, items-written, piece-array, piece-shortest, tree-shortest}
use Rattle.cbor_maps.specs.Labels.{LabelledFields, label_bytes, labelled, labelled_values, spelled_labels}
use Rattle.cbor_maps.specs.Writing.{encoded_bytes, map_head}
use Rattle.cbor_maps.specs.WrittenReads.{AreLabelled, SpellsItem}
use Rattle.cbor_maps.proofs.LabelledMaps.{IsLabelled, no-label, piece-label, piece-labelled, piece-of-fields, under-label}
use Rattle.cbor_maps.proofs.WrittenMaps.{encoded-again, piece-encoded, utf8-ascii}
use Rattle.cose_msgs.specs.Key.{key_of}
use Rattle.cose_msgs.specs.Written.{key_bytes, IsReadAs}
use Rattle.cose_msgs.proofs.WrittenKeys.{IsPoint, key-read}
use Rattle.engagement.specs.Engagement.{engagement, of_bytes, of_map, needed_security}
use Rattle.engagement.specs.WrittenEngagement.{engagement_bytes, methods_bytes, options_bytes, security_bytes, WrittenIsRead}

-- ---- its parts are items

value : (d : ℕ) (bytes : List ℕ) → d ≤ 31 → IsPiece d bytes → SpellsItem 31 bytes
value d bytes le p = let n = p.nesting in record { item = p.item; spells = record { spelled = p.spelled; nesting = omega arith }; nesting = omega arith }

version-value : SpellsItem 31 (text_bytes (codes "1.0"))
version-value = value 0 (text_bytes (codes "1.0")) (omega arith) (piece-shortest 0 (Text (codes "1.0")) (omega arith, utf8-ascii (codes "1.0") refl) (omega arith))

abbrev security_parts : Point → List (List ℕ)
security_parts p = uint_bytes 1 ∷ encoded_bytes (key_bytes p) ∷ []

security-pieces : (p : Point) → length (key_bytes p) < 2 ^ 32 → AllPieces 1 (security_parts p)
security-pieces p short = (piece-shortest 1 (Unsigned 1) (omega arith) (omega arith), (piece-encoded (key_bytes p) short, tt))

security-value : (p : Point) → length (key_bytes p) < 2 ^ 32 → SpellsItem 31 (security_bytes (key_bytes p))
unfolding security_bytes
security-value p short = value 2 (array_bytes (security_parts p)) (omega arith) (piece-array 1 (security_parts p) (security-pieces p short) (omega arith))

abbrev options_fields : List ℕ → LabelledFields
options_fields uuid = (pos 0, Some (boolean_bytes true)) ∷ (pos 1, Some (boolean_bytes false)) ∷ (pos 10, Some (bytes_bytes uuid)) ∷ []

options-pieces : (uuid : List ℕ) → length uuid < 2 ^ 32 → ArePieces 0 (spelled_labels (labelled_values (options_fields uuid)))
options-pieces uuid short = (
  piece-label 0 (pos 0) (omega arith),
  piece-shortest 0 (Simple 21) (inl (omega arith)) (omega arith),
  (
    piece-label 0 (pos 1) (omega arith),
    piece-shortest 0 (Simple 20) (inl (omega arith)) (omega arith),
    (piece-label 0 (pos 10) (omega arith), piece-shortest 0 (Bytes uuid) short (omega arith), tt),
  ),
)

options-piece : (uuid : List ℕ) → length uuid < 2 ^ 32 → IsPiece 1 (options_bytes uuid)
unfolding options_bytes
options-piece uuid short = piece-of-fields 0 (options_fields uuid) (options-pieces uuid short) (omega arith)

abbrev method_parts : List ℕ → List (List ℕ)
method_parts uuid = uint_bytes 2 ∷ uint_bytes 1 ∷ options_bytes uuid ∷ []

method-pieces : (uuid : List ℕ) → length uuid < 2 ^ 32 → AllPieces 1 (method_parts uuid)
method-pieces uuid short = (piece-shortest 1 (Unsigned 2) (omega arith) (omega arith), (piece-shortest 1 (Unsigned 1) (omega arith) (omega arith), (options-piece uuid short, tt)))

methods-value : (uuid : List ℕ) → length uuid < 2 ^ 32 → SpellsItem 31 (methods_bytes uuid)
unfolding methods_bytes
methods-value uuid short =
    let one = piece-array 1 (method_parts uuid) (method-pieces uuid short) (omega arith) in
    value 3 (array_bytes (array_bytes (method_parts uuid) ∷ [])) (omega arith) (piece-array 2 (array_bytes (method_parts uuid) ∷ []) (one, tt) (omega arith))

-- ---- the map

abbrev fields_of : Point → Option (List ℕ) → LabelledFields
fields_of p uuid = (pos 0, Some (text_bytes (codes "1.0"))) ∷ (pos 1, Some (security_bytes (key_bytes p))) ∷ (pos 2, option_map methods_bytes uuid) ∷ []

-- what can be written: a key that is read as its point, and a key and a UUID that have a spelling
pub record IsWritable (p : Point) (uuid : Option (List ℕ)) : Type 0 where
  pub key : IsReadAs key_of (key_bytes p) p
  pub key_short : length (key_bytes p) < 2 ^ 32
  pub uuid_short : IfSome uuid (λ b. length b < 2 ^ 32)

are-fields : (p : Point) (uuid : Option (List ℕ)) → IsWritable p uuid → AreLabelled (labelled_values (fields_of p uuid))
are-fields p None is = (omega arith, version-value, (omega arith, security-value p is.key_short, tt))
are-fields p (Some u) is = (omega arith, version-value, (omega arith, security-value p is.key_short, (omega arith, methods-value u is.uuid_short, tt)))

few : (p : Point) (uuid : Option (List ℕ)) → length (labelled_values (fields_of p uuid)) < 2 ^ 32
few p None = omega arith
few p (Some u) = omega arith

abbrev map_at : Point → Option (List ℕ) → Part
map_at p uuid = record { at = 0; bytes = engagement_bytes p uuid }

version-under : (p : Point) (uuid : Option (List ℕ)) → IsWritable p uuid → IsLabelled (map_at p uuid) (pos 0) (text_bytes (codes "1.0"))
unfolding engagement_bytes
version-under p None is = under-label 0 (fields_of p None) (pos 0) (text_bytes (codes "1.0")) (are-fields p None is) (omega arith) refl
version-under p (Some u) is = under-label 0 (fields_of p (Some u)) (pos 0) (text_bytes (codes "1.0")) (are-fields p (Some u) is) (omega arith) refl

security-under : (p : Point) (uuid : Option (List ℕ)) → IsWritable p uuid → IsLabelled (map_at p uuid) (pos 1) (security_bytes (key_bytes p))
unfolding engagement_bytes
security-under p None is = under-label 0 (fields_of p None) (pos 1) (security_bytes (key_bytes p)) (are-fields p None is) (omega arith) refl
security-under p (Some u) is = under-label 0 (fields_of p (Some u)) (pos 1) (security_bytes (key_bytes p)) (are-fields p (Some u) is) (omega arith) refl

-- the retrieval methods are there once at most
record IsOnce (map : Part) : Type 0 where
  found : Option Part
  is : labelled map (pos 2) ≡ Ok found

methods-once : (p : Point) (uuid : Option (List ℕ)) → IsWritable p uuid → IsOnce (map_at p uuid)
unfolding engagement_bytes
methods-once p None is = record { found = None; is = no-label 0 (fields_of p None) (pos 2) (are-fields p None is) (omega arith) refl }
methods-once p (Some u) is =
    let m = under-label 0 (fields_of p (Some u)) (pos 2) (methods_bytes u) (are-fields p (Some u) is) (omega arith) refl in
    record { found = Some (record { at = m.at; bytes = methods_bytes u }); is = m.is }

engagement-piece : (p : Point) (uuid : Option (List ℕ)) → IsWritable p uuid → IsPiece 32 (engagement_bytes p uuid)
unfolding engagement_bytes
engagement-piece p uuid is = piece-labelled (fields_of p uuid) (are-fields p uuid is) (few p uuid)

-- ---- what it is read as

security-read : (p : Point) (at : ℕ) → IsReadAs key_of (key_bytes p) p → length (key_bytes p) < 2 ^ 32 → needed_security (Some (record { at = at; bytes = security_bytes (key_bytes p) })) ≡ Ok (record { suite = pos 1; key = record { at = 0; bytes = key_bytes p } })
unfolding security_bytes
security-read p at key short =
    rw (items-written 1 (security_parts p) at (security-pieces p short) (omega arith) (omega arith))
    (rw (tree-shortest (Unsigned 1) (omega arith) (omega arith))
    (rw (encoded-again _ (key_bytes p) short)
    (rw key.one refl)))

map-read : (p : Point) (uuid : Option (List ℕ)) → IsWritable p uuid → of_map (map_at p uuid) ≡ Ok p
map-read p uuid is =
    let version = version-under p uuid is in
    let security = security-under p uuid is in
    let methods = methods-once p uuid is in
    let key = is.key in
    rw (version.is, security.is, methods.is)
    (rw (tree-shortest (Text (codes "1.0")) (omega arith, utf8-ascii (codes "1.0") refl) (omega arith))
    (rw (security-read p security.at is.key is.key_short)
    (rw key.value_is refl)))

pub engagement-read : (p : Point) (uuid : Option (List ℕ)) → IsWritable p uuid → engagement (engagement_bytes p uuid) ≡ Ok p
unfolding engagement
engagement-read p uuid is = ap of_bytes (cbor-piece (engagement_bytes p uuid) (engagement-piece p uuid is)) ∙ map-read p uuid is

-- ---- of every point

key-short : (p : Point) → IsPoint p → length (key_bytes p) < 2 ^ 32
unfolding key_bytes map_head label_bytes
key-short p is =
    let x = is.x in
    let y = is.y in
    let front = length-append p.x (34 ∷ []) in
    let whole = length-append (p.x ++ (34 ∷ [])) (88 ∷ 32 ∷ p.y) in
    rw (is.x, is.y) (omega arith)

pub written-read : WrittenIsRead
written-read p uuid x y short =
    let is : IsPoint p = record { x = x; y = y } in
    engagement-read p uuid (record { key = key-read p is; key_short = key-short p is; uuid_short = short })
