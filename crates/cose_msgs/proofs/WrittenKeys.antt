-- A key that was written is read as its point.
use Rattle.std.proofs.Common.{◌≡◌, ◌<◌, ◌^◌, ℕ, pos, negsuc, List, [], ◌∷◌, length, Some, Ok, refl, arith, eq-eqb}
use Rattle.key_device.specs.declared.point.Point.{Point}
use Rattle.cbor_view.specs.Parts.{Part}
use Rattle.cbor_view.specs.Shortest.{bytes_bytes, uint_bytes}
use Rattle.cbor_view.specs.Tree.{Unsigned, Bytes}
use Rattle.cbor_view.proofs.WrittenParts.{IsPiece, piece-shortest, cbor-piece, tree-shortest}
use Rattle.cbor_maps.specs.Labels.{LabelledFields, labelled_values}
use Rattle.cbor_maps.specs.Reading.{map_in}
use Rattle.cbor_maps.specs.WrittenReads.{SpellsItem, AreLabelled}
use Rattle.cbor_maps.proofs.LabelledMaps.{IsLabelled, under-label, piece-labelled, map-labelled}
use Rattle.cose_msgs.specs.Key.{key_of, key_of_map}
use Rattle.cose_msgs.specs.Written.{key_bytes, IsReadAs}

-- a leaf, as the value of a field
pub leaf : (bytes : List ℕ) → IsPiece 0 bytes → SpellsItem 31 bytes
leaf bytes p = let n = p.nesting in record { item = p.item; spells = record { spelled = p.spelled; nesting = omega arith }; nesting = omega arith }

-- both coordinates have 32 bytes
pub record IsPoint (p : Point) : Type 0 where
  pub x : length p.x ≡ 32
  pub y : length p.y ≡ 32

abbrev fields_of : Point → LabelledFields
fields_of p = (pos 1, Some (uint_bytes 2)) ∷ (negsuc 0, Some (uint_bytes 1)) ∷ (negsuc 1, Some (bytes_bytes p.x)) ∷ (negsuc 2, Some (bytes_bytes p.y)) ∷ []

short-x : (p : Point) → IsPoint p → length p.x < 2 ^ 32
short-x p is = let n = is.x in omega arith

short-y : (p : Point) → IsPoint p → length p.y < 2 ^ 32
short-y p is = let n = is.y in omega arith

are-fields : (p : Point) → IsPoint p → AreLabelled (labelled_values (fields_of p))
are-fields p is = (
  omega arith,
  leaf (uint_bytes 2) (piece-shortest 0 (Unsigned 2) (omega arith) (omega arith)),
  (
    omega arith,
    leaf (uint_bytes 1) (piece-shortest 0 (Unsigned 1) (omega arith) (omega arith)),
    (
      omega arith,
      leaf (bytes_bytes p.x) (piece-shortest 0 (Bytes p.x) (short-x p is) (omega arith)),
      (
        omega arith,
        leaf (bytes_bytes p.y) (piece-shortest 0 (Bytes p.y) (short-y p is) (omega arith)),
        tt,
      ),
    ),
  ),
)

abbrev key_at : Point → Part
key_at p = record { at = 0; bytes = key_bytes p }

kind-under : (p : Point) → IsPoint p → IsLabelled (key_at p) (pos 1) (uint_bytes 2)
unfolding key_bytes
kind-under p is = under-label 0 (fields_of p) (pos 1) (uint_bytes 2) (are-fields p is) (omega arith) refl

curve-under : (p : Point) → IsPoint p → IsLabelled (key_at p) (negsuc 0) (uint_bytes 1)
unfolding key_bytes
curve-under p is = under-label 0 (fields_of p) (negsuc 0) (uint_bytes 1) (are-fields p is) (omega arith) refl

x-under : (p : Point) → IsPoint p → IsLabelled (key_at p) (negsuc 1) (bytes_bytes p.x)
unfolding key_bytes
x-under p is = under-label 0 (fields_of p) (negsuc 1) (bytes_bytes p.x) (are-fields p is) (omega arith) refl

y-under : (p : Point) → IsPoint p → IsLabelled (key_at p) (negsuc 2) (bytes_bytes p.y)
unfolding key_bytes
y-under p is = under-label 0 (fields_of p) (negsuc 2) (bytes_bytes p.y) (are-fields p is) (omega arith) refl

is-map : (p : Point) → IsPoint p → map_in (key_at p) ≡ Some (key_at p)
unfolding key_bytes
is-map p is = map-labelled 0 (fields_of p) (are-fields p is) (omega arith)

pub key-piece : (p : Point) → IsPoint p → IsPiece 32 (key_bytes p)
unfolding key_bytes
key-piece p is = piece-labelled (fields_of p) (are-fields p is) (omega arith)

map-read : (p : Point) → IsPoint p → key_of_map (key_at p) ≡ Ok p
map-read p is =
    let kind = kind-under p is in
    let curve = curve-under p is in
    let x = x-under p is in
    let y = y-under p is in
    rw (kind.is, curve.is, x.is, y.is)
    (rw (tree-shortest (Unsigned 2) (omega arith) (omega arith), tree-shortest (Unsigned 1) (omega arith) (omega arith), tree-shortest (Bytes p.x) (short-x p is) (omega arith), tree-shortest (Bytes p.y) (short-y p is) (omega arith))
    (rw (eq-eqb (length p.x) 32 is.x, eq-eqb (length p.y) 32 is.y) refl))

pub key-read : (p : Point) → IsPoint p → IsReadAs key_of (key_bytes p) p
key-read p is = record { one = cbor-piece (key_bytes p) (key-piece p is); value_is = rw (is-map p is) (map-read p is) }
