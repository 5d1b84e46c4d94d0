-- Laws of rounds.
use Rattle.std.specs.Prelude.{◌≡◌, ℕ, List, [], ◌∷◌, ◌++◌, ◌+◌, length, Bool, true, Option, Some, None}
use Rattle.std.specs.List.{list_all}
use Rattle.key_device.specs.Plan.{Plan, Done, bind, over_all}
use Rattle.key_device.specs.declared.exchange.Exchange.{Exchange}
use Rattle.round_model.specs.Rounds.{Round, unless_ended, rounds, replies_of, entries_of, end_of_rounds, Session, session}

-- what one message more adds to the rounds before it: nothing where the session has ended, else its round
abbrev pub with_message : {Message Entry End : Type 0}
    → (ℕ → Message → Plan (Round Entry End)) → ℕ → Message → List (Round Entry End) → Plan (List (Round Entry End))
with_message answer place m before =
    unless_ended (end_of_rounds before) (bind (answer place m) (λ round. Done (before ++ round ∷ []))) (Done before)

-- A law: the rounds of messages with one more at the end are those of the messages, and then its own,
-- at the place of that message.
abbrev pub IsOneRoundMore : Type 0 → Type 0 → Type 0 → Type 0
IsOneRoundMore Message Entry End =
    (answer : ℕ → Message → Plan (Round Entry End)) (place : ℕ) (ms : List Message) (m : Message)
    → rounds answer place (ms ++ m ∷ []) ≡ bind (rounds answer place ms) (with_message answer (place + length ms) m)

-- a later message of a session, under what both ends agreed on
abbrev pub later_message : {Message Agreed Entry End : Type 0}
    → (Agreed → ℕ → Message → Plan (Round Entry End)) → ℕ → Message → Session Agreed Entry End → Option Agreed
    → Plan (Session Agreed Entry End)
later_message answer place m before None = Done before
later_message answer place m before (Some agreed) =
    bind (with_message (answer agreed) place m before.rounds)
    (λ rounds. Done (record { agreed = Some agreed; rounds = rounds }))

-- what one message more adds to a session: the first one its agreement and its round, a later one its round
abbrev pub session_with : {Message Agreed Entry End : Type 0}
    → (Message → Plan Agreed) → (Message → Agreed → ℕ → Message → Plan (Round Entry End))
    → List Message → Message → Session Agreed Entry End → Plan (Session Agreed Entry End)
session_with agree answer [] m before = session agree answer (m ∷ [])
session_with agree answer (first ∷ ms) m before = later_message (answer first) (2 + length ms) m before before.agreed

-- A law: a session of messages with one more at the end.
abbrev pub IsOneMessageMore : Type 0 → Type 0 → Type 0 → Type 0 → Type 0
IsOneMessageMore Message Agreed Entry End =
    (agree : Message → Plan Agreed) (answer : Message → Agreed → ℕ → Message → Plan (Round Entry End))
    (ms : List Message) (m : Message)
    → session agree answer (ms ++ m ∷ []) ≡ bind (session agree answer ms) (session_with agree answer ms m)

-- A law: where two ends answer each message alike as long as what they enter into the record is within a
-- bound, they answer a list of messages alike as long as all that they enter is: over the same tapes and
-- words both ask the same questions, come to the same rounds, and leave the same.
abbrev pub AnswersAlike : {Message Entry End : Type 0} → (Entry → Bool)
    → (ℕ → Message → Plan (Round Entry End)) → (ℕ → Message → Plan (Round Entry End)) → Type 0
AnswersAlike {Message} {Entry} {End} within answer answer' =
    (place : ℕ) (m : Message) (tape other : List Exchange) (words : List ℕ) (round : Round Entry End)
    → (over_all (answer place m) tape other words).outcome ≡ Some round → list_all within round.entries ≡ true
    → over_all (answer' place m) tape other words ≡ over_all (answer place m) tape other words

abbrev pub AreRoundsAlike : Type 0 → Type 0 → Type 0 → Type 0
AreRoundsAlike Message Entry End =
    (within : Entry → Bool) (answer answer' : ℕ → Message → Plan (Round Entry End))
    → AnswersAlike within answer answer'
    → (place : ℕ) (ms : List Message) (tape other : List Exchange) (words : List ℕ) (all : List (Round Entry End))
    → (over_all (rounds answer place ms) tape other words).outcome ≡ Some all → list_all within (entries_of all) ≡ true
    → over_all (rounds answer' place ms) tape other words ≡ over_all (rounds answer place ms) tape other words

-- The same of sessions, whose first message is agreed on alike.
abbrev pub AreSessionsAlike : Type 0 → Type 0 → Type 0 → Type 0 → Type 0
AreSessionsAlike Message Agreed Entry End =
    (within : Entry → Bool) (agree : Message → Plan Agreed)
    (answer answer' : Message → Agreed → ℕ → Message → Plan (Round Entry End))
    → ((first : Message) (agreed : Agreed) → AnswersAlike within (answer first agreed) (answer' first agreed))
    → (ms : List Message) (tape other : List Exchange) (words : List ℕ) (all : Session Agreed Entry End)
    → (over_all (session agree answer ms) tape other words).outcome ≡ Some all → list_all within (entries_of all.rounds) ≡ true
    → over_all (session agree answer' ms) tape other words ≡ over_all (session agree answer ms) tape other words

-- A law: of messages with one more at the end, the rounds of the messages before it came to an outcome, and
-- the replies and entries are theirs, and then those of the last round; where the session had ended, no more.
pub record Grew {Message Entry End : Type 0} (answer : ℕ → Message → Plan (Round Entry End)) (place : ℕ) (ms : List Message)
    (tape other : List Exchange) (words : List ℕ) (all : List (Round Entry End)) : Type 0 where
  pub before : List (Round Entry End)
  pub came : (over_all (rounds answer place ms) tape other words).outcome ≡ Some before
  pub last : List (Round Entry End)
  pub joined : all ≡ before ++ last
  pub replies : replies_of all ≡ replies_of before ++ replies_of last
  pub entries : entries_of all ≡ entries_of before ++ entries_of last
  pub ended : (end : End) → end_of_rounds before ≡ Some end → last ≡ []

abbrev pub RoundsGrow : Type 0 → Type 0 → Type 0 → Type 0
RoundsGrow Message Entry End =
    (answer : ℕ → Message → Plan (Round Entry End)) (place : ℕ) (ms : List Message) (m : Message)
    (tape other : List Exchange) (words : List ℕ) (all : List (Round Entry End))
    → (over_all (rounds answer place (ms ++ m ∷ [])) tape other words).outcome ≡ Some all
    → Grew answer place ms tape other words all
