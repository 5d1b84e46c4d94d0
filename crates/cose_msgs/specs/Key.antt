-- The keys of COSE (RFC 9052, section 7) that are points of the curve P-256 (RFC 9053, section 7.1.1): what one
-- says, or the first check that fails.
use Rattle.std.specs.Prelude.{ℕ, ◌==◌, Bool, false, not, pos, negsuc, List, Option, Some, None, is_some, option_and_then, Result, Ok, Err}
use Rattle.mdoc_outside.specs.ResultSteps.{◌>>=◌, or_fault}
use Rattle.cbor_view.specs.Parts.{Part, uint_in, bytes_in, boolean_in}
use Rattle.cbor_maps.specs.Labels.{labelled}
use Rattle.cbor_maps.specs.Reading.{map_in, once}
use Rattle.key_device.specs.declared.point.Point.{Point}
use Rattle.cose_msgs.specs.declared.key_fault.KeyFault.{KeyFault}
use Rattle.cose_msgs.specs.declared.key_fault.KeyFault.TheVariants.{NotMap, Doubled, Kind, Curve, Compressed, Coordinate}
use Rattle.cose_msgs.specs.Steps.{check, of_length}

-- whether it is that unsigned number, and whether it is a truth value
abbrev pub is_number : ℕ → Option ℕ → Bool
is_number n None = false
is_number n (Some own) = own == n

abbrev pub is_uint : ℕ → Option Part → Bool
is_uint n found = is_number n (option_and_then uint_in found)

abbrev pub is_boolean : Option Part → Bool
is_boolean found = is_some (option_and_then boolean_in found)

abbrev pub coordinate : Option Part → Result (List ℕ) KeyFault
coordinate found = or_fault Coordinate (of_length 32 (option_and_then bytes_in found))

-- the map: label 1 is the kind of the key, -1 its curve, -2 and -3 the coordinates x and y
abbrev pub key_of_map : Part → Result Point KeyFault
key_of_map map = do
  kind ← once Doubled (labelled map (pos 1))
  curve ← once Doubled (labelled map (negsuc 0))
  first ← once Doubled (labelled map (negsuc 1))
  second ← once Doubled (labelled map (negsuc 2))
  of_kind ← check Kind (is_uint 2 kind)
  on_curve ← check Curve (is_uint 1 curve)
  uncompressed ← check Compressed (not (is_boolean second))
  x ← coordinate first
  y ← coordinate second
  Ok (record { x = x; y = y })

abbrev pub key_of : Part → Result Point KeyFault
key_of item = or_fault NotMap (map_in item) >>= key_of_map
