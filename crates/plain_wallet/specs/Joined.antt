-- What a further fragment adds to the messages before it.
use Rattle.std.specs.Prelude.{ℕ, List, [], ◌∷◌}
use Rattle.ble_fragments.specs.declared.ending.Ending.{Ending}
use Rattle.ble_fragments.specs.declared.ending.Ending.TheVariants.{Open}
use Rattle.ble_fragments.specs.declared.arrival.Arrival.{Arrival}
use Rattle.ble_fragments.specs.declared.arrival.Arrival.TheVariants.{Message, Nothing}

abbrev pub messages_heard : Arrival → List (List ℕ)
messages_heard (Message m) = m ∷ []
messages_heard (Nothing ending) = []

-- how the fragments end then
abbrev pub ending_heard : Arrival → Ending
ending_heard (Message m) = Open
ending_heard (Nothing ending) = ending
