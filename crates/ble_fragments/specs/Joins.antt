-- What a joiner stands for, and what it answers to a further fragment.
use Rattle.std.specs.Prelude.{◌≡◌, Bool, true, false, ℕ, ◌+◌, List, [], ◌∷◌, ◌++◌, length, Result, Ok, Err, nat_lt, ◌||◌, if◌then◌else◌}
use Rattle.std.specs.List.{concat}
use Rattle.mdoc_outside.specs.declared.fragment.Fragment.{Fragment}
use Rattle.ble_fragments.specs.declared.ending.Ending.{Ending}
use Rattle.ble_fragments.specs.declared.ending.Ending.TheVariants.{Open, Peer, Bad}
use Rattle.ble_fragments.specs.declared.fed.Fed.{Fed}
use Rattle.ble_fragments.specs.declared.fed.Fed.TheVariants.{More, Message, Started, Ended}
use Rattle.ble_fragments.specs.declared.join_fault.JoinFault.{JoinFault}
use Rattle.ble_fragments.specs.declared.join_fault.JoinFault.TheVariants.{TooLong}
use Rattle.ble_fragments.specs.Part.{Part, Piece, Start, Stop, Broken, part_of}
use Rattle.ble_fragments.specs.Whole.{Whole, whole}

-- What contracts see of a joiner: of the message that is not whole yet the number of its pieces and
-- their bytes, and how the fragments so far end.
pub record Joined : Type 0 where
  pub count : ℕ
  pub bytes : List ℕ
  pub ending : Ending

abbrev pub joined_of : Whole → Joined
joined_of of = record { count = length of.rest; bytes = concat of.rest; ending = of.ending }

-- the joiner stands for these fragments
abbrev pub Joins : List Fragment → Joined → Type 0
Joins came joiner = joiner ≡ joined_of (whole came)

-- the messages in an answer
abbrev pub messages_in : Result Fed JoinFault → List (List ℕ)
messages_in (Ok (Message message)) = message ∷ []
messages_in (Ok More) = []
messages_in (Ok Started) = []
messages_in (Ok Ended) = []
messages_in (Err fault) = []

abbrev pub IsMessage : Result Fed JoinFault → Type 0
IsMessage (Ok (Message message)) = Unit {0}
IsMessage (Ok More) = ⊥
IsMessage (Ok Started) = ⊥
IsMessage (Ok Ended) = ⊥
IsMessage (Err fault) = ⊥

-- the answer to a fragment that is this part, after which the fragments end so
abbrev pub IsAnswer : Ending → Part → Result Fed JoinFault → Type 0
IsAnswer (Bad fault) part result = result ≡ Err fault
IsAnswer Peer part result = result ≡ Ok Ended
IsAnswer Open (Piece true bytes) result = IsMessage result
IsAnswer Open (Piece false bytes) result = result ≡ Ok More
IsAnswer Open Start result = result ≡ Ok Started
IsAnswer Open Stop result = ⊥
IsAnswer Open (Broken fault) result = ⊥

-- A further fragment was fed: the joiner stands for the fragments with it, the messages are those so
-- far and the one in the answer, and the answer is that of the end that they come to.
pub record Feeds (came : List Fragment) (fragment : Fragment) (result : Result Fed JoinFault) (new : Joined) : Type 0 where
  pub joins : Joins (came ++ fragment ∷ []) new
  pub messages : (whole (came ++ fragment ∷ [])).messages ≡ (whole came).messages ++ messages_in result
  pub answer : IsAnswer (whole (came ++ fragment ∷ [])).ending (part_of fragment) result

-- One step of a joiner, by what it keeps.

-- the message would have too many fragments or too many bytes with this piece
unfoldable pub is_over : Joined → List ℕ → Bool
is_over joiner piece = nat_lt 65536 (joiner.count + 1) || nat_lt 1048576 (length joiner.bytes + length piece)

abbrev pub ended_with : Joined → Ending → Joined
ended_with joiner ending = record { count = joiner.count; bytes = joiner.bytes; ending = ending }

abbrev pub with_piece : Bool → Joined → List ℕ → Joined
with_piece true joiner piece = record { count = 0; bytes = []; ending = Open }
with_piece false joiner piece = record { count = joiner.count + 1; bytes = joiner.bytes ++ piece; ending = Open }

abbrev pub step_open : Joined → Part → Joined
step_open joiner (Piece is_last piece) = if is_over joiner piece then ended_with joiner (Bad TooLong) else with_piece is_last joiner piece
step_open joiner Start = joiner
step_open joiner Stop = ended_with joiner Peer
step_open joiner (Broken fault) = ended_with joiner (Bad fault)

abbrev pub fed_piece : Bool → Joined → List ℕ → Fed
fed_piece true joiner piece = Message (joiner.bytes ++ piece)
fed_piece false joiner piece = More

abbrev pub answer_open : Joined → Part → Result Fed JoinFault
answer_open joiner (Piece is_last piece) = if is_over joiner piece then Err TooLong else Ok (fed_piece is_last joiner piece)
answer_open joiner Start = Ok Started
answer_open joiner Stop = Ok Ended
answer_open joiner (Broken fault) = Err fault
