-- One message more at the end of a list of messages.
use Rattle.std.proofs.Common.{◌≡◌, ℕ, List, [], ◌∷◌, ◌++◌, ◌+◌, length, Option, Some, None, refl, sym, ◌∙◌, ap, arith}
use Rattle.key_device.specs.Plan.{Plan, Done, bind}
use Rattle.key_device.proofs.PlanEquations.{bind_bind, bind_same}
use Rattle.round_model.specs.Rounds.{Round, unless_ended, with_round, rounds, end_of_rounds}
use Rattle.round_model.specs.RoundLaws.{with_message, IsOneRoundMore, session_with, IsOneMessageMore}

-- a message after the rounds that come after one that goes on
after_round : {Message Entry End : Type 0} (answer : ℕ → Message → Plan (Round Entry End)) (place : ℕ) (m : Message)
    (round : Round Entry End) (later : List (Round Entry End)) → round.ended ≡ None
    → with_round round (with_message answer place m later) ≡ with_message answer place m (round ∷ later)
after_round {Message} {Entry} {End} answer place m round later goes =
    both (end_of_rounds later)
    ∙ ap (λ (e : Option End). unless_ended (unless_ended e (end_of_rounds later) e) one_more (Done (round ∷ later))) (sym goes)
  where
    one_more : Plan (List (Round Entry End))
    one_more = bind (answer place m) (λ next. Done ((round ∷ later) ++ next ∷ []))

    both : (ended : Option End)
        → with_round round (unless_ended ended (bind (answer place m) (λ next. Done (later ++ next ∷ []))) (Done later))
        ≡ unless_ended ended one_more (Done (round ∷ later))
    both None = bind_bind (answer place m) (λ next. Done (later ++ next ∷ [])) (λ rounds. Done (round ∷ rounds))
    both (Some end) = refl

-- a message after a round and those that come after it
after_rounds : {Message Entry End : Type 0} (answer : ℕ → Message → Plan (Round Entry End)) (place : ℕ) (m : Message)
    (round : Round Entry End) (later : Plan (List (Round Entry End))) (ended : Option End) → round.ended ≡ ended
    → unless_ended ended (with_round round (bind later (with_message answer place m))) (Done (round ∷ []))
    ≡ bind (unless_ended ended (with_round round later) (Done (round ∷ []))) (with_message answer place m)
after_rounds {Message} {Entry} {End} answer place m round later None goes =
    bind_bind later (with_message answer place m) (λ rounds. Done (round ∷ rounds))
    ∙ bind_same later _ _ (λ rounds. after_round answer place m round rounds goes)
    ∙ sym (bind_bind later (λ rounds. Done (round ∷ rounds)) (with_message answer place m))
after_rounds {Message} {Entry} {End} answer place m round later (Some end) ends =
    ap (λ (e : Option End). unless_ended (unless_ended e None e) (bind (answer place m) (λ next. Done ((round ∷ []) ++ next ∷ []))) (Done (round ∷ []))) (sym ends)

-- a round is the last one where no message comes after it
alone : {Entry End : Type 0} (round : Round Entry End) (ended : Option End)
    → unless_ended ended (with_round round (Done [])) (Done (round ∷ [])) ≡ Done (round ∷ [])
alone round None = refl
alone round (Some end) = refl

one_more : {Message Entry End : Type 0} (answer : ℕ → Message → Plan (Round Entry End)) (place last : ℕ) (ms : List Message) (m : Message)
    → last ≡ place + length ms → rounds answer place (ms ++ m ∷ []) ≡ bind (rounds answer place ms) (with_message answer last m)
one_more {Message} {Entry} {End} answer place last [] m is =
    bind_same (answer place m) _ _ (λ round. alone round round.ended)
    ∙ ap (λ (n : ℕ). bind (answer n m) (λ round. Done (round ∷ []))) (omega arith)
one_more answer place last (first ∷ ms) m is =
    bind_same (answer place first) _ _ (λ round.
    ap (λ (later : Plan (List (Round _ _))). unless_ended round.ended (with_round round later) (Done (round ∷ [])))
    (one_more answer (place + 1) last ms m (omega arith))
    ∙ after_rounds answer last m round (rounds answer (place + 1) ms) round.ended refl)
    ∙ sym (bind_bind (answer place first) _ (with_message answer last m))

pub is_one_round_more : (Message Entry End : Type 0) → IsOneRoundMore Message Entry End
is_one_round_more Message Entry End answer place ms m = one_more answer place (place + length ms) ms m refl

pub is_one_message_more : (Message Agreed Entry End : Type 0) → IsOneMessageMore Message Agreed Entry End
is_one_message_more Message Agreed Entry End agree answer [] m = refl
is_one_message_more Message Agreed Entry End agree answer (first ∷ ms) m =
    bind_same (agree first) _ _ (λ agreed.
    ap (λ (now : Plan (List (Round Entry End))). bind now (λ rounds. Done (record { agreed = Some agreed; rounds = rounds })))
    (one_more (answer first agreed) 1 (2 + length ms) (first ∷ ms) m (omega arith))
    ∙ bind_bind (rounds (answer first agreed) 1 (first ∷ ms)) (with_message (answer first agreed) (2 + length ms) m)
    (λ rounds. Done (record { agreed = Some agreed; rounds = rounds }))
    ∙ sym (bind_bind (rounds (answer first agreed) 1 (first ∷ ms)) _ (session_with agree answer (first ∷ ms) m)))
    ∙ sym (bind_bind (agree first) _ (session_with agree answer (first ∷ ms) m))
