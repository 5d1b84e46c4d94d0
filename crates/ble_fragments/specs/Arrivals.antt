-- What a further fragment brings to the fragments before it (ISO/IEC 18013-5, 8.3.3.1.1).
use Rattle.std.specs.Prelude.{◌≡◌, ◌≤◌, ◌^◌, ◌==◌, ℕ, Bool, true, false, List, [], ◌∷◌, ◌++◌, length, Result, Ok, Err}
use Rattle.ble_fragments.specs.Joins.{Joined, Joins}
use Rattle.ble_fragments.specs.Whole.{whole}
use Rattle.ble_fragments.specs.declared.ending.Ending.{Ending}
use Rattle.ble_fragments.specs.declared.ending.Ending.TheVariants.{Open, Peer, Bad}
use Rattle.ble_fragments.specs.declared.fed.Fed.{Fed}
use Rattle.ble_fragments.specs.declared.fed.Fed.TheVariants as fed
use Rattle.ble_fragments.specs.declared.join_fault.JoinFault.{JoinFault}
use Rattle.ble_fragments.specs.declared.join_fault.JoinFault.TheVariants as faults
use Rattle.mdoc_outside.specs.declared.fragment.Fragment.{Fragment}
use Rattle.mdoc_outside.specs.declared.fragment.Fragment.TheVariants.{Data, State}
use Rattle.mdoc_outside.specs.declared.memory.Memory.{Memory}
use Rattle.ble_fragments.specs.declared.arrival.Arrival.{Arrival}
use Rattle.ble_fragments.specs.declared.arrival.Arrival.TheVariants.{Message, Nothing}

-- whether a fragment may end a message: a data fragment that 0 leads
abbrev pub is_led_by_zero : List ℕ → Bool
is_led_by_zero [] = false
is_led_by_zero (lead ∷ bytes) = lead == 0

abbrev pub is_last : Fragment → Bool
is_last (Data bytes) = is_led_by_zero bytes
is_last (State value) = false

-- what a joiner's answer brings
abbrev pub arrival_in : Fed → Arrival
arrival_in (fed.Message message) = Message message
arrival_in fed.More = Nothing Open
arrival_in fed.Started = Nothing Open
arrival_in fed.Ended = Nothing Peer

abbrev pub fault_arrival : JoinFault → Result Arrival Memory
fault_arrival faults.EmptyFragment = Ok (Nothing (Bad faults.EmptyFragment))
fault_arrival (faults.BadLead lead) = Ok (Nothing (Bad (faults.BadLead lead)))
fault_arrival (faults.BadState value) = Ok (Nothing (Bad (faults.BadState value)))
fault_arrival faults.TooLong = Ok (Nothing (Bad faults.TooLong))
fault_arrival faults.Memory = Err (record {})

abbrev pub arrival_of : Result Fed JoinFault → Result Arrival Memory
arrival_of (Ok answer) = Ok (arrival_in answer)
arrival_of (Err fault) = fault_arrival fault

-- With the fragment there is this message more, and the list goes on;
pub record BringsMessage (came : List Fragment) (f : Fragment) (m : List ℕ) (new : Joined) : Type 0 where
  pub message : (whole (came ++ f ∷ [])).messages ≡ (whole came).messages ++ m ∷ []
  pub goes_on : (whole (came ++ f ∷ [])).ending ≡ Open
  pub joins : Joins (came ++ f ∷ []) new

-- or there is none, and the list ends so.
pub record BringsNothing (came : List Fragment) (f : Fragment) (ending : Ending) (new : Joined) : Type 0 where
  pub same : (whole (came ++ f ∷ [])).messages ≡ (whole came).messages
  pub ends : (whole (came ++ f ∷ [])).ending ≡ ending
  pub joins : Joins (came ++ f ∷ []) new

abbrev pub Brings : List Fragment → Fragment → Arrival → Joined → Type 0
Brings came f (Message m) new = BringsMessage came f m new
Brings came f (Nothing ending) new = BringsNothing came f ending new

-- the message isn't longer than one that a session opens
abbrev pub IsShort : Arrival → Type 0
IsShort (Message m) = length m ≤ 2 ^ 24
IsShort (Nothing ending) = Unit {0}

abbrev pub NoMessage : Arrival → Type 0
NoMessage (Message m) = ⊥
NoMessage (Nothing ending) = Unit {0}
