-- Device engagement as it is written (ISO/IEC 18013-5, 8.2.1.1), every head as short as it can be.
use Rattle.std.specs.Prelude.{◌≡◌, ◌<◌, ◌^◌, ℕ, true, false, pos, List, [], ◌∷◌, length, codes, Option, Some, option_map, IfSome, Ok}
use Rattle.cbor_view.specs.Shortest.{array_bytes, boolean_bytes, bytes_bytes, text_bytes, uint_bytes}
use Rattle.cbor_maps.specs.Labels.{labelled_map}
use Rattle.cbor_maps.specs.Writing.{encoded_bytes}
use Rattle.cose_msgs.specs.Written.{key_bytes}
use Rattle.key_device.specs.declared.point.Point.{Point}
use Rattle.engagement.specs.Engagement.{engagement}

-- [1, EDeviceKeyBytes]: the cipher suite, and the device key as encoded CBOR
unfoldable pub security_bytes : List ℕ → List ℕ
security_bytes key = array_bytes (uint_bytes 1 ∷ encoded_bytes key ∷ [])

-- Bluetooth Low Energy: the device is a peripheral server, of that UUID, and no central client
unfoldable pub options_bytes : List ℕ → List ℕ
options_bytes uuid = labelled_map ((pos 0, Some (boolean_bytes true)) ∷ (pos 1, Some (boolean_bytes false)) ∷ (pos 10, Some (bytes_bytes uuid)) ∷ [])

-- one retrieval method: [2, 1, options], its type and version first
unfoldable pub methods_bytes : List ℕ → List ℕ
methods_bytes uuid = array_bytes (array_bytes (uint_bytes 2 ∷ uint_bytes 1 ∷ options_bytes uuid ∷ []) ∷ [])

-- {0: "1.0", 1: security, ? 2: retrieval methods}
unfoldable pub engagement_bytes : Point → Option (List ℕ) → List ℕ
engagement_bytes point uuid = labelled_map ((pos 0, Some (text_bytes (codes "1.0"))) ∷ (pos 1, Some (security_bytes (key_bytes point))) ∷ (pos 2, option_map methods_bytes uuid) ∷ [])

-- What is written of a point of 32 bytes each, with a UUID that has a spelling or without one, is read as the
-- point.
abbrev pub WrittenIsRead : Type 0
WrittenIsRead =
    (point : Point) (uuid : Option (List ℕ)) → length point.x ≡ 32 → length point.y ≡ 32 → IfSome uuid (λ b. length b < 2 ^ 32)
    → engagement (engagement_bytes point uuid) ≡ Ok point
