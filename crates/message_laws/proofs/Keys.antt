-- What is read of a key lies where its item does.
use Rattle.std.proofs.Common.{◌≡◌, not, subst, ℕ, ℤ, List, Option, Some, None, Result, Ok, Err, refl, pos, negsuc}
use Rattle.mdoc_outside.specs.ResultSteps.{◌>>=◌, or_fault}
use Rattle.cbor_view.specs.declared.doubled.Doubled as views
use Rattle.cbor_view.specs.Parts.{Part, LiesIn, bytes_in}
use Rattle.cbor_view.proofs.Places.{within-within}
use Rattle.cbor_maps.specs.Labels.{labelled}
use Rattle.cbor_maps.specs.Reading.{map_in, once}
use Rattle.cbor_maps.proofs.Within.{step, given}
use Rattle.key_device.specs.declared.point.Point.{Point}
use Rattle.cose_msgs.specs.declared.key_fault.KeyFault.{KeyFault}
use Rattle.cose_msgs.specs.declared.key_fault.KeyFault.TheVariants.{NotMap, Doubled, Kind, Curve, Compressed, Coordinate}
use Rattle.cose_msgs.specs.Key.{coordinate, is_boolean, is_uint, key_of, key_of_map}
use Rattle.cose_msgs.specs.Steps.{check, of_length}
use Rattle.message_laws.specs.MessageLies.{KeyLies}
use Rattle.message_laws.specs.StringLies.{StringLies}
use Rattle.message_laws.proofs.Messages.{label-lies, map-is, of-length}
use Rattle.message_laws.proofs.Strings.{bytes-lie}

once-is : {A : Type 0} (r : Result A views.Doubled) (x : A) → once Doubled r ≡ Ok x → r ≡ Ok x
once-is (Ok y) x e = cc
once-is (Err twice) x e = absurd (cc)

-- a coordinate and the item that it is read of
record IsCoordinate (all map : Part) (label : ℤ) (value : List ℕ) : Type 0 where
  item : Part
  under : labelled map label ≡ Ok (Some item)
  stands_in : StringLies bytes_in all item value

coordinate-lies : (all map : Part) (label : ℤ) (found : Option Part) (value : List ℕ) → LiesIn all map → labelled map label ≡ Ok found → coordinate found ≡ Ok value → IsCoordinate all map label value
coordinate-lies all map label None value stands_in is e = absurd (cc)
coordinate-lies all map label (Some item) value stands_in is e = go (bytes_in item) refl (given Coordinate (of_length 32 (bytes_in item)) value e) where
  go : (o : Option (List ℕ)) → bytes_in item ≡ o → of_length 32 o ≡ Some value → IsCoordinate all map label value
  go None read e = absurd (cc)
  go (Some b) read e =
      let same : b ≡ value = of-length 32 b value e in
      record { item = item; under = is; stands_in = bytes-lie all item value (within-within all map item stands_in (label-lies map item label is)) (rw read (rw same refl)) }

abbrev with_second : List ℕ → List ℕ → Result Point KeyFault
with_second x y = Ok (record { x = x; y = y })

abbrev from_first : Option Part → List ℕ → Result Point KeyFault
from_first second x = coordinate second >>= with_second x

abbrev from_form : Option Part → Option Part → Unit {0} → Result Point KeyFault
from_form first second uncompressed = coordinate first >>= from_first second

abbrev from_curve : Option Part → Option Part → Unit {0} → Result Point KeyFault
from_curve first second on_curve = check Compressed (not (is_boolean second)) >>= from_form first second

abbrev from_kind : Option Part → Option Part → Option Part → Unit {0} → Result Point KeyFault
from_kind curve first second of_kind = check Curve (is_uint 1 curve) >>= from_curve first second

abbrev from_second_label : Option Part → Option Part → Option Part → Option Part → Result Point KeyFault
from_second_label kind curve first second = check Kind (is_uint 2 kind) >>= from_kind curve first second

abbrev from_first_label : Part → Option Part → Option Part → Option Part → Result Point KeyFault
from_first_label map kind curve first = once Doubled (labelled map (negsuc 2)) >>= from_second_label kind curve first

abbrev from_curve_label : Part → Option Part → Option Part → Result Point KeyFault
from_curve_label map kind curve = once Doubled (labelled map (negsuc 1)) >>= from_first_label map kind curve

abbrev from_kind_label : Part → Option Part → Result Point KeyFault
from_kind_label map kind = once Doubled (labelled map (negsuc 0)) >>= from_curve_label map kind

map-lies : (all map : Part) (key : Point) → LiesIn all map → key_of_map map ≡ Ok key → KeyLies all map key
map-lies all map key stands_in e =
    let a = step (once Doubled (labelled map (pos 1))) (from_kind_label map) key e in
    let b = step (once Doubled (labelled map (negsuc 0))) (from_curve_label map a.value) key a.after in
    let c = step (once Doubled (labelled map (negsuc 1))) (from_first_label map a.value b.value) key b.after in
    let d = step (once Doubled (labelled map (negsuc 2))) (from_second_label a.value b.value c.value) key c.after in
    let f = step (check Kind (is_uint 2 a.value)) (from_kind b.value c.value d.value) key d.after in
    let g = step (check Curve (is_uint 1 b.value)) (from_curve c.value d.value) key f.after in
    let h = step (check Compressed (not (is_boolean d.value))) (from_form c.value d.value) key g.after in
    let x = step (coordinate c.value) (from_first d.value) key h.after in
    let y = step (coordinate d.value) (with_second x.value) key x.after in
    let first = coordinate-lies all map (negsuc 1) c.value x.value stands_in (once-is (labelled map (negsuc 1)) c.value c.is) x.is in
    let second = coordinate-lies all map (negsuc 2) d.value y.value stands_in (once-is (labelled map (negsuc 2)) d.value d.is) y.is in
    let same : record { x = x.value; y = y.value } ≡ key = (let e = y.after in cc) in
    subst (KeyLies all map) same (record {
      first = first.item;
      second = second.item;
      under_first = first.under;
      under_second = second.under;
      x_lies = first.stands_in;
      y_lies = second.stands_in;
    })

pub key-lies : (all item : Part) (key : Point) → LiesIn all item → key_of item ≡ Ok key → KeyLies all item key
key-lies all item key stands_in e =
    let m = step (or_fault NotMap (map_in item)) key_of_map key e in
    let own : item ≡ m.value = map-is item m.value (given NotMap (map_in item) m.value m.is) in
    map-lies all item key stands_in (rw own m.after)
