-- What is read of an issuer-signed item lies where its bytes do.
use Rattle.std.proofs.Common.{◌≡◌, ℕ, ◌==◌, if◌then◌else◌, Bool, true, false, List, [], ◌∷◌, Option, Some, None, Result, Ok, Err, refl, sym, ap, ◌∙◌, subst, option_and_then}
use Rattle.mdoc_outside.specs.declared.key_name.KeyName.{KeyName}
use Rattle.mdoc_outside.specs.declared.key_name.KeyName.TheVariants as keys
use Rattle.mdoc_outside.specs.ResultSteps.{◌>>=◌}
use Rattle.cbor_view.specs.declared.cbor_fault.CborFault.{CborFault}
use Rattle.cbor_view.specs.Parts.{LiesIn, Part, body_of, bytes_in, cbor, tag_in, tagged, text_in, uint_in, under}
use Rattle.cbor_view.proofs.Contents.{tagged-lies}
use Rattle.cbor_view.proofs.Places.{within-within}
use Rattle.cbor_view.proofs.ReadParts.{string_moved}
use Rattle.cbor_maps.specs.declared.map_fault.MapFault.{MapFault}
use Rattle.cbor_maps.specs.declared.map_fault.MapFault.TheVariants as maps
use Rattle.cbor_maps.specs.Reading.{any_in, distinct, encoded_in, entry, field, map_fault, tagged_string, spelled_item}
use Rattle.cbor_maps.proofs.Within.{field-read, given, step, under-lies}
use Rattle.issuer_items.specs.declared.item_fault.ItemFault.{ItemFault}
use Rattle.issuer_items.specs.declared.item_fault.ItemFault.TheVariants as faults
use Rattle.issuer_items.specs.Item.{Item, item, item_of_map}
use Rattle.message_laws.specs.ItemLies.{ItemLies}
use Rattle.message_laws.specs.StringLies.{StringLies, in_string, whole_part}
use Rattle.message_laws.proofs.Strings.{bytes-lie, in-string-lies, text-lies, whole-lies}

-- ---- the map

-- what stands under the keys of a map
record AreFields (map : Part) (it : Item) : Type 0 where
  random : Part
  name : Part
  value : Part
  under_random : entry map keys.Random ≡ Ok (Some random)
  under_name : entry map keys.ElementIdentifier ≡ Ok (Some name)
  under_value : entry map keys.ElementValue ≡ Ok (Some value)
  random_is : bytes_in random ≡ Some it.random
  name_is : text_in name ≡ Some it.name
  value_is : value.bytes ≡ it.value

same-bytes : (p q : Part) → p ≡ q → p.bytes ≡ q.bytes
same-bytes p q same = ap (λ (x : Part). x.bytes) same

abbrev last : ℕ → List ℕ → List ℕ → Part → Result Item MapFault
last digest_id random name value = Ok (record { digest_id = digest_id; random = random; name = name; value = value.bytes })

abbrev from_name : Part → ℕ → List ℕ → List ℕ → Result Item MapFault
from_name map digest_id random name = field keys.ElementValue any_in map >>= last digest_id random name

abbrev from_random : Part → ℕ → List ℕ → Result Item MapFault
from_random map digest_id random = field keys.ElementIdentifier text_in map >>= from_name map digest_id random

abbrev from_id : Part → ℕ → Result Item MapFault
from_id map digest_id = field keys.Random bytes_in map >>= from_random map digest_id

abbrev from_distinct : Part → Unit {0} → Result Item MapFault
from_distinct map each = field keys.DigestId uint_in map >>= from_id map

map-fields : (map : Part) (it : Item) → item_of_map map ≡ Ok it → AreFields map it
map-fields map it e =
    let a = step (distinct (keys.DigestId ∷ keys.Random ∷ keys.ElementIdentifier ∷ keys.ElementValue ∷ []) map) (from_distinct map) it e in
    let b = step (field keys.DigestId uint_in map) (from_id map) it a.after in
    let c = step (field keys.Random bytes_in map) (from_random map b.value) it b.after in
    let d = step (field keys.ElementIdentifier text_in map) (from_name map b.value c.value) it c.after in
    let v = step (field keys.ElementValue any_in map) (last b.value c.value d.value) it d.after in
    let random = field-read keys.Random bytes_in map c.value c.is in
    let name = field-read keys.ElementIdentifier text_in map d.value d.is in
    let value = field-read keys.ElementValue any_in map v.value v.is in
    let own : value.item ≡ v.value = (let e = value.is in cc) in
    let same : record { digest_id = b.value; random = c.value; name = d.value; value = v.value.bytes } ≡ it = (let e = v.after in cc) in
    subst (AreFields map) same (record {
      random = random.item;
      name = name.item;
      value = value.item;
      under_random = random.under;
      under_name = name.under;
      under_value = value.under;
      random_is = random.is;
      name_is = name.is;
      value_is = same-bytes value.item v.value own;
    })

-- ---- the tagged string

fault-ok : (r : Result Item MapFault) (it : Item) → map_fault faults.Doubled faults.Field r ≡ Ok it → r ≡ Ok it
fault-ok (Ok x) it e = cc
fault-ok (Err (maps.Doubled name)) it e = absurd (cc)
fault-ok (Err (maps.Field name)) it e = absurd (cc)

-- the string under the tag
record IsTagged (all part : Part) (inside : List ℕ) : Type 0 where
  string : Part
  under_tag : tagged 24 part ≡ Some string
  stands_in : StringLies bytes_in all string inside

string-tagged : (all part : Part) (inside : List ℕ) → LiesIn all part → encoded_in part ≡ Some inside → IsTagged all part inside
string-tagged all part inside stands_in e = go (tag_in part) refl e where
  choose : (n : ℕ) (q : Part) → tag_in part ≡ Some (n, q) → (t : Bool) → (n == 24) ≡ t → option_and_then bytes_in (if t then Some q else None) ≡ Some inside → IsTagged all part inside
  choose n q tag true is e = record {
    string = q;
    under_tag = ap (option_and_then (under 24)) tag ∙ ap (λ (t : Bool). if t then Some q else None) is;
    stands_in = bytes-lie all q inside (within-within all part q stands_in (tagged-lies part q n tag)) e;
  }
  choose n q tag false is e = absurd (cc)

  go : (o : Option (ℕ × Part)) → tag_in part ≡ o → option_and_then bytes_in (option_and_then (under 24) o) ≡ Some inside → IsTagged all part inside
  go None tag e = absurd (cc)
  go (Some (n, q)) tag e = choose n q tag (n == 24) refl e

inside-is : (part : Part) (r : Result Part CborFault) (inside : List ℕ) → cbor part.bytes ≡ r → tagged_string faults.NotTagged r ≡ Ok inside → encoded_in part ≡ Some inside
inside-is part (Err fault) inside read e = absurd (cc)
inside-is part (Ok whole) inside read e =
    let same : whole ≡ whole_part part.bytes = (whole-lies part.bytes whole read).0 in
    string_moved 24 part (whole_part part.bytes) refl ∙ sym (ap encoded_in same) ∙ given faults.NotTagged (encoded_in whole) inside e

map-is-whole : (inside : List ℕ) (r : Result Part CborFault) (map : Part) → cbor inside ≡ r → spelled_item faults.Cbor r ≡ Ok map → map ≡ whole_part inside
map-is-whole inside (Err fault) map read e = absurd (cc)
map-is-whole inside (Ok p) map read e = let same : p ≡ map = cc in sym same ∙ (whole-lies inside p read).0

-- ---- the item

abbrev read_map : Part → Result Item ItemFault
read_map map = map_fault faults.Doubled faults.Field (item_of_map map)

abbrev read_string : List ℕ → Result Item ItemFault
read_string inside = spelled_item faults.Cbor (cbor inside) >>= read_map

-- a field of the map that the string is
field-lies : (all string : Part) (inside : List ℕ) (value : Part) (name : KeyName) → StringLies bytes_in all string inside → entry (whole_part inside) name ≡ Ok (Some value)
    → LiesIn all (in_string (body_of string inside) value)
field-lies all string inside value name stands_in under = in-string-lies all (body_of string inside) value stands_in.string_lies (under-lies (whole_part inside) value name under)

pub item-lies : (all part : Part) (it : Item) → LiesIn all part → item part.bytes ≡ Ok it → ItemLies all part it
unfolding item
item-lies all part it stands_in e =
    let a = step (tagged_string faults.NotTagged (cbor part.bytes)) read_string it e in
    let b = step (spelled_item faults.Cbor (cbor a.value)) read_map it a.after in
    let tag = string-tagged all part a.value stands_in (inside-is part (cbor part.bytes) a.value refl a.is) in
    let own : b.value ≡ whole_part a.value = map-is-whole a.value (cbor a.value) b.value refl b.is in
    let fields = map-fields (whole_part a.value) it (subst (λ (p : Part). item_of_map p ≡ Ok it) own (fault-ok (item_of_map b.value) it b.after)) in
    let inside = body_of tag.string a.value in
    let random = field-lies all tag.string a.value fields.random keys.Random tag.stands_in fields.under_random in
    let name = field-lies all tag.string a.value fields.name keys.ElementIdentifier tag.stands_in fields.under_name in
    let value = field-lies all tag.string a.value fields.value keys.ElementValue tag.stands_in fields.under_value in
    record {
      string = tag.string;
      map = a.value;
      random = fields.random;
      name = fields.name;
      value = fields.value;
      under_tag = tag.under_tag;
      map_lies = tag.stands_in;
      under_random = fields.under_random;
      under_name = fields.under_name;
      under_value = fields.under_value;
      random_lies = bytes-lie all (in_string inside fields.random) it.random random fields.random_is;
      name_lies = text-lies all (in_string inside fields.name) it.name name fields.name_is;
      value_lies = value;
      value_bytes = fields.value_is;
    }
