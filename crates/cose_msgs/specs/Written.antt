-- Keys and messages as they are written, untagged, every head as short as it can be (RFC 9052, sections 4.2, 6.2
-- and 7).
use Rattle.std.specs.Prelude.{ℕ, ◌≡◌, pos, negsuc, List, [], ◌∷◌, Option, Some, None, option_map, Result, Ok}
use Rattle.cbor_view.specs.Parts.{Part, cbor}
use Rattle.cbor_view.specs.Shortest.{array_bytes, bytes_bytes, int_bytes, null_bytes, uint_bytes}
use Rattle.cbor_maps.specs.Labels.{labelled_map}
use Rattle.key_device.specs.declared.point.Point.{Point}

-- {1: 2, -1: 1, -2: x, -3: y}
unfoldable pub key_bytes : Point → List ℕ
key_bytes point = labelled_map ((pos 1, Some (uint_bytes 2)) ∷ (negsuc 0, Some (uint_bytes 1)) ∷ (negsuc 1, Some (bytes_bytes point.x)) ∷ (negsuc 2, Some (bytes_bytes point.y)) ∷ [])

-- the protected maps {1: -7} and {1: 5}
unfoldable pub es256 : List ℕ
es256 = labelled_map ((pos 1, Some (int_bytes (negsuc 6))) ∷ [])

unfoldable pub hmac256 : List ℕ
hmac256 = labelled_map ((pos 1, Some (int_bytes (pos 5))) ∷ [])

-- the unprotected map: the chain under label 33, where there is one
unfoldable pub chain_map : Option (List ℕ) → List ℕ
chain_map chain = labelled_map ((pos 33, option_map bytes_bytes chain) ∷ [])

abbrev pub payload_bytes : Option (List ℕ) → List ℕ
payload_bytes None = null_bytes
payload_bytes (Some payload) = bytes_bytes payload

-- COSE_Sign1 and COSE_Mac0
unfoldable pub sign1_bytes : Option (List ℕ) → Option (List ℕ) → List ℕ → List ℕ
sign1_bytes chain payload signature = array_bytes (bytes_bytes es256 ∷ chain_map chain ∷ payload_bytes payload ∷ bytes_bytes signature ∷ [])

unfoldable pub mac0_bytes : List ℕ → List ℕ
mac0_bytes tag = array_bytes (bytes_bytes hmac256 ∷ chain_map None ∷ null_bytes ∷ bytes_bytes tag ∷ [])

-- The bytes are one item, which a definition reads as that value.
pub record IsReadAs {A E : Type 0} (read : Part → Result A E) (bytes : List ℕ) (value : A) : Type 0 where
  pub one : cbor bytes ≡ Ok (record { at = 0; bytes = bytes })
  pub value_is : read (record { at = 0; bytes = bytes }) ≡ Ok value
