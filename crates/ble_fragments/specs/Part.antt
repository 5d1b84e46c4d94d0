-- What a fragment is by itself (ISO/IEC 18013-5, 8.3.3.1.1).
use Rattle.std.specs.Prelude.{Bool, true, false, ℕ, List, [], ◌∷◌, ◌==◌, if◌then◌else◌}
use Rattle.mdoc_outside.specs.declared.fragment.Fragment.{Fragment}
use Rattle.mdoc_outside.specs.declared.fragment.Fragment.TheVariants.{Data, State}
use Rattle.ble_fragments.specs.declared.join_fault.JoinFault.{JoinFault}
use Rattle.ble_fragments.specs.declared.join_fault.JoinFault.TheVariants.{EmptyFragment, BadLead, BadState}

-- A piece of a message, whether it is the last one, and its bytes without the leading one; the start
-- and the end of a session; or a fragment that is none of these, with its first fault.
pub data Part : Type 0 where
  Piece : Bool → List ℕ → Part
  Start : Part
  Stop : Part
  Broken : JoinFault → Part

-- a data fragment by its leading byte: 0 leads the last piece of a message, 1 each other
abbrev pub part_led_by : ℕ → List ℕ → Part
part_led_by lead bytes =
    if lead == 0 then Piece true bytes else (if lead == 1 then Piece false bytes else Broken (BadLead lead))

-- a value of State: 1 is the start of a session, 2 its end
abbrev pub part_of_state : ℕ → Part
part_of_state value = if value == 1 then Start else (if value == 2 then Stop else Broken (BadState value))

abbrev pub part_of : Fragment → Part
part_of (Data []) = Broken EmptyFragment
part_of (Data (lead ∷ bytes)) = part_led_by lead bytes
part_of (State value) = part_of_state value
