-- The issuer-signed item (ISO/IEC 18013-5, 8.3.2.1.2.2 and 9.1.2.4): what IssuerSignedItemBytes say, or the
-- first check that fails.
use Rattle.std.specs.Prelude.{ℕ, List, [], ◌∷◌, Result, Ok, Err}
use Rattle.mdoc_outside.specs.declared.key_name.KeyName.TheVariants as keys
use Rattle.mdoc_outside.specs.ResultSteps.{◌>>=◌}
use Rattle.cbor_view.specs.Parts.{Part, cbor, uint_in, bytes_in, text_in}
use Rattle.cbor_maps.specs.declared.map_fault.MapFault.{MapFault}
use Rattle.cbor_maps.specs.Reading.{distinct, field, any_in, map_fault, tagged_string, spelled_item}
use Rattle.issuer_items.specs.declared.item_fault.ItemFault.{ItemFault}
use Rattle.issuer_items.specs.declared.item_fault.ItemFault.TheVariants.{NotTagged, Cbor, Doubled, Field}

-- A digest identifier, a salt, an element's identifier, and the bytes of its value.
pub record Item : Type 0 where
  pub digest_id : ℕ
  pub random : List ℕ
  pub name : List ℕ
  pub value : List ℕ

-- the map IssuerSignedItem: each of its four keys is there once, and other keys are ignored
abbrev pub item_of_map : Part → Result Item MapFault
item_of_map map = do
  each ← distinct (keys.DigestId ∷ keys.Random ∷ keys.ElementIdentifier ∷ keys.ElementValue ∷ []) map
  digest_id ← field keys.DigestId uint_in map
  random ← field keys.Random bytes_in map
  name ← field keys.ElementIdentifier text_in map
  value ← field keys.ElementValue any_in map
  Ok (record { digest_id = digest_id; random = random; name = name; value = value.bytes })

-- what all of the bytes are: the string under tag 24, and the item of CBOR that it spells
unfoldable pub item : List ℕ → Result Item ItemFault
item raw = do
  inside ← tagged_string NotTagged (cbor raw)
  map ← spelled_item Cbor (cbor inside)
  map_fault Doubled Field (item_of_map map)
