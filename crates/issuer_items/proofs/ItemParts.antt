-- Salt, identifier and value of an item that was read are parts of its bytes.
use Rattle.std.proofs.Common.{◌≡◌, ℕ, List, [], ◌∷◌, Option, Some, None, Result, Ok, Err, refl, sym, ap, ◌∙◌, subst}
use Rattle.mdoc_outside.specs.declared.key_name.KeyName.TheVariants as keys
use Rattle.mdoc_outside.specs.ResultSteps.{◌>>=◌, or_fault}
use Rattle.cbor_view.specs.declared.cbor_fault.CborFault.{CborFault}
use Rattle.cbor_view.specs.Reading.{reads}
use Rattle.cbor_view.specs.Tree.{Tree}
use Rattle.cbor_view.specs.Parts.{Part, cbor, part_of, uint_in, bytes_in, text_in}
use Rattle.cbor_maps.specs.declared.map_fault.MapFault.{MapFault}
use Rattle.cbor_maps.specs.declared.map_fault.MapFault.TheVariants as maps
use Rattle.cbor_maps.specs.Contents.{IsPart}
use Rattle.cbor_maps.specs.Reading.{distinct, field, any_in, encoded_in, map_fault, tagged_string, spelled_item}
use Rattle.cbor_maps.proofs.Within.{step, part-within, lies-part, under-lies, field-read, bytes-under, text-under, tagged-part}
use Rattle.issuer_items.specs.declared.item_fault.ItemFault.{ItemFault}
use Rattle.issuer_items.specs.declared.item_fault.ItemFault.TheVariants as faults
use Rattle.issuer_items.specs.Item.{Item, item, item_of_map}
use Rattle.issuer_items.specs.ItemView.{AreParts}

abbrev last : ℕ → List ℕ → List ℕ → Part → Result Item MapFault
last digest_id random name value = Ok (record { digest_id = digest_id; random = random; name = name; value = value.bytes })

abbrev from_value : Part → ℕ → List ℕ → List ℕ → Result Item MapFault
from_value map digest_id random name = field keys.ElementValue any_in map >>= last digest_id random name

abbrev from_name : Part → ℕ → List ℕ → Result Item MapFault
from_name map digest_id random = field keys.ElementIdentifier text_in map >>= from_value map digest_id random

abbrev from_random : Part → ℕ → Result Item MapFault
from_random map digest_id = field keys.Random bytes_in map >>= from_name map digest_id

abbrev from_id : Part → Unit {0} → Result Item MapFault
from_id map each = field keys.DigestId uint_in map >>= from_random map

map-parts : (map : Part) (it : Item) → item_of_map map ≡ Ok it → AreParts map.bytes it
map-parts map it e =
    let a = step (distinct (keys.DigestId ∷ keys.Random ∷ keys.ElementIdentifier ∷ keys.ElementValue ∷ []) map) (from_id map) it e in
    let b = step (field keys.DigestId uint_in map) (from_random map) it a.after in
    let c = step (field keys.Random bytes_in map) (from_name map b.value) it b.after in
    let d = step (field keys.ElementIdentifier text_in map) (from_value map b.value c.value) it c.after in
    let v = step (field keys.ElementValue any_in map) (last b.value c.value d.value) it d.after in
    let random = field-read keys.Random bytes_in map c.value c.is in
    let name = field-read keys.ElementIdentifier text_in map d.value d.is in
    let value = field-read keys.ElementValue any_in map v.value v.is in
    let own : value.item ≡ v.value = (let e = value.is in cc) in
    let same : record { digest_id = b.value; random = c.value; name = d.value; value = v.value.bytes } ≡ it = (let e = v.after in cc) in
    subst (AreParts map.bytes) same (record {
      random = bytes-under map random.item keys.Random c.value random.under random.is;
      name = text-under map name.item keys.ElementIdentifier d.value name.under name.is;
      value = subst (λ (p : Part). IsPart map.bytes p.bytes) own (lies-part map value.item (under-lies map value.item keys.ElementValue value.under));
    })

parts-within : (raw inside : List ℕ) (it : Item) → IsPart raw inside → AreParts inside it → AreParts raw it
parts-within raw inside it p parts = record {
  random = part-within raw inside it.random p parts.random;
  name = part-within raw inside it.name p parts.name;
  value = part-within raw inside it.value p parts.value;
}

whole-bytes : (bytes : List ℕ) (r : Result Tree CborFault) (p : Part) → part_of bytes r ≡ Ok p → bytes ≡ p.bytes
whole-bytes bytes (Ok t) p e = let f : Part → List ℕ = λ q. q.bytes in let same : record { at = 0; bytes = bytes } ≡ p = cc in ap f same
whole-bytes bytes (Err fault) p e = absurd (cc)

fault-ok : (r : Result Item MapFault) (it : Item) → map_fault faults.Doubled faults.Field r ≡ Ok it → r ≡ Ok it
fault-ok (Ok x) it e = cc
fault-ok (Err (maps.Doubled name)) it e = absurd (cc)
fault-ok (Err (maps.Field name)) it e = absurd (cc)

inside-part : (raw : List ℕ) (r : Result Part CborFault) (inside : List ℕ) → cbor raw ≡ r → tagged_string faults.NotTagged r ≡ Ok inside → IsPart raw inside
inside-part raw (Err fault) inside read e = absurd (cc)
inside-part raw (Ok whole) inside read e = go (encoded_in whole) refl e where
  go : (o : Option (List ℕ)) → encoded_in whole ≡ o → or_fault faults.NotTagged o ≡ Ok inside → IsPart raw inside
  go None is e = absurd (cc)
  go (Some b) is e =
      let same : b ≡ inside = cc in
      let part = subst (λ (x : List ℕ). IsPart x b) (sym (whole-bytes raw (reads raw) whole read)) (tagged-part 24 whole b is) in
      subst (IsPart raw) same part

map-bytes : (inside : List ℕ) (r : Result Part CborFault) (map : Part) → cbor inside ≡ r → spelled_item faults.Cbor r ≡ Ok map → inside ≡ map.bytes
map-bytes inside (Err fault) map read e = absurd (cc)
map-bytes inside (Ok p) map read e = let f : Part → List ℕ = λ q. q.bytes in let same : p ≡ map = cc in whole-bytes inside (reads inside) p read ∙ ap f same

abbrev from_map : Part → Result Item ItemFault
from_map map = map_fault faults.Doubled faults.Field (item_of_map map)

abbrev from_inside : List ℕ → Result Item ItemFault
from_inside inside = spelled_item faults.Cbor (cbor inside) >>= from_map

pub item-parts : (raw : List ℕ) (it : Item) → item raw ≡ Ok it → AreParts raw it
unfolding item
item-parts raw it e =
    let a = step (tagged_string faults.NotTagged (cbor raw)) from_inside it e in
    let b = step (spelled_item faults.Cbor (cbor a.value)) from_map it a.after in
    let parts = map-parts b.value it (fault-ok (item_of_map b.value) it b.after) in
    parts-within raw a.value it (inside-part raw (cbor raw) a.value refl a.is) (subst (λ (x : List ℕ). AreParts x it) (sym (map-bytes a.value (cbor a.value) b.value refl b.is)) parts)
