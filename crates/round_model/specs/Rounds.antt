-- The rounds of a session (ISO/IEC 18013-5, 9.1.1.4). One end answers each message of the other one in a
-- round: with a reply or without, with what the round enters into the session's record, and it may end
-- the session. The rounds are a plan of questions over the whole list of messages; none keeps a state
-- for the next one.
use Rattle.std.specs.Prelude.{ℕ, List, [], ◌∷◌, ◌+◌, Option, Some, None}
use Rattle.std.specs.List.{filter_map, flat_map}
use Rattle.key_device.specs.Plan.{Plan, Done, bind}

-- what one round gives: the message that is sent, the entries of the record (the items that a wallet
-- released, the answers that a reader got), and the end of the session
pub record Round (Entry End : Type 0) : Type 0 where
  pub reply : Option (List ℕ)
  pub entries : List Entry
  pub ended : Option End

-- one thing where the session goes on, another one where it has ended
abbrev pub unless_ended : {End A : Type 0} → Option End → A → A → A
unless_ended None on ended = on
unless_ended (Some end) on ended = ended

-- a round, and then others
abbrev pub with_round : {Entry End : Type 0} → Round Entry End → Plan (List (Round Entry End)) → Plan (List (Round Entry End))
with_round round later = bind later (λ rounds. Done (round ∷ rounds))

-- The rounds of messages, each with the place of its message, up to the first that ends the session.
abbrev pub rounds : {Message Entry End : Type 0}
    → (ℕ → Message → Plan (Round Entry End)) → ℕ → List Message → Plan (List (Round Entry End))
rounds answer place [] = Done []
rounds answer place (m ∷ ms) =
    bind (answer place m) (λ round. unless_ended round.ended
    (with_round round (rounds answer (place + 1) ms))
    (Done (round ∷ [])))

-- the replies of rounds, in order
abbrev pub replies_of : {Entry End : Type 0} → List (Round Entry End) → List (List ℕ)
replies_of rounds = filter_map (λ round. round.reply) rounds

-- the entries of rounds, in order
abbrev pub entries_of : {Entry End : Type 0} → List (Round Entry End) → List Entry
entries_of rounds = flat_map (λ round. round.entries) rounds

-- by which the first of the rounds that ends the session ends it
abbrev pub end_of_rounds : {Entry End : Type 0} → List (Round Entry End) → Option End
end_of_rounds [] = None
end_of_rounds (round ∷ rounds) = unless_ended round.ended (end_of_rounds rounds) round.ended

-- Where the first message brings what both ends agree on, the rounds are those that this calls for.
pub record Session (Agreed Entry End : Type 0) : Type 0 where
  pub agreed : Option Agreed
  pub rounds : List (Round Entry End)

abbrev pub session : {Message Agreed Entry End : Type 0}
    → (Message → Plan Agreed) → (Message → Agreed → ℕ → Message → Plan (Round Entry End))
    → List Message → Plan (Session Agreed Entry End)
session agree answer [] = Done (record { agreed = None; rounds = [] })
session agree answer (m ∷ ms) =
    bind (agree m) (λ agreed. bind (rounds (answer m agreed) 1 (m ∷ ms))
    (λ rounds. Done (record { agreed = Some agreed; rounds = rounds })))
