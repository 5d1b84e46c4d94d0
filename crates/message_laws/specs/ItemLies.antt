-- That what is read of an issuer-signed item is there in the bytes that it was read from, each part at its place.
use Rattle.std.specs.Prelude.{◌≡◌, ℕ, List, Some, Ok}
use Rattle.mdoc_outside.specs.declared.key_name.KeyName.TheVariants as keys
use Rattle.cbor_view.specs.Parts.{LiesIn, Part, body_of, bytes_in, tagged, text_in}
use Rattle.cbor_maps.specs.Reading.{entry}
use Rattle.issuer_items.specs.Item.{Item}
use Rattle.message_laws.specs.StringLies.{StringLies, in_string, whole_part}

-- IssuerSignedItemBytes (ISO/IEC 18013-5, 8.3.2.1.2.2) are a string of bytes under tag 24, and the string spells the map
-- IssuerSignedItem. Under their keys in this map stand the random, the element's identifier and its value; they are read
-- from the string's front on, and lie at their places where the string stands.
pub record ItemLies (all part : Part) (item : Item) : Type 0 where
  pub string : Part
  pub map : List ℕ
  pub random : Part
  pub name : Part
  pub value : Part
  pub under_tag : tagged 24 part ≡ Some string
  pub map_lies : StringLies bytes_in all string map
  pub under_random : entry (whole_part map) keys.Random ≡ Ok (Some random)
  pub under_name : entry (whole_part map) keys.ElementIdentifier ≡ Ok (Some name)
  pub under_value : entry (whole_part map) keys.ElementValue ≡ Ok (Some value)
  pub random_lies : StringLies bytes_in all (in_string (body_of string map) random) item.random
  pub name_lies : StringLies text_in all (in_string (body_of string map) name) item.name
  pub value_lies : LiesIn all (in_string (body_of string map) value)
  pub value_bytes : value.bytes ≡ item.value
