-- Two ends that answer each message alike, over a list of messages.
use Rattle.std.proofs.Common.{◌≡◌, ℕ, List, [], ◌∷◌, ◌+◌, Bool, true, false, ◌&&◌, Option, Some, None, refl, sym, ◌∙◌, ap}
use Rattle.std.specs.List.{list_all}
use Rattle.std.proofs.lemmas.List.Folds.{list_all-append}
use Rattle.key_device.specs.Plan.{Plan, Done, Then, Other, Draw, bind, over_all}
use Rattle.key_device.specs.Tape.{answer_of, tape_after}
use Rattle.key_device.specs.declared.exchange.Exchange.{Exchange}
use Rattle.key_device.proofs.CourseLemmas.{over_same, outcome_bind}
use Rattle.round_model.specs.Rounds.{Round, unless_ended, with_round, rounds, entries_of, Session}
use Rattle.round_model.specs.RoundLaws.{AnswersAlike, AreRoundsAlike, AreSessionsAlike}

and_parts : (a b : Bool) → (a && b) ≡ true → (a ≡ true) × (b ≡ true)
and_parts true b is = (refl, is)
and_parts false b is = cc

-- of a plan with another one after it, what the first one came to, and the second one then
pub record InParts {A B : Type 0} (p : Plan A) (f : A → Plan B) (tape other : List Exchange) (words : List ℕ) (b : B) : Type 0 where
  pub middle : A
  pub before : (over_all p tape other words).outcome ≡ Some middle
  pub after : (over_all (f middle) (over_all p tape other words).left (over_all p tape other words).left_other (over_all p tape other words).left_words).outcome ≡ Some b

pub in_parts : {A B : Type 0} (p : Plan A) (f : A → Plan B) (tape other : List Exchange) (words : List ℕ) (b : B)
    → (over_all (bind p f) tape other words).outcome ≡ Some b → InParts p f tape other words b
in_parts (Done a) f tape other words b is = record { middle = a; before = refl; after = is }
in_parts (Then ask next) f tape other words b is =
    let rest = in_parts (next (answer_of tape ask)) f (tape_after tape ask) other words b is in
    record { middle = rest.middle; before = rest.before; after = rest.after }
in_parts (Other ask next) f tape other words b is =
    let rest = in_parts (next (answer_of other ask)) f tape (tape_after other ask) words b is in
    record { middle = rest.middle; before = rest.before; after = rest.after }
in_parts (Draw next) f tape other (w ∷ ws) b is =
    let rest = in_parts (next w) f tape other ws b is in
    record { middle = rest.middle; before = rest.before; after = rest.after }
in_parts (Draw next) f tape other [] b is = cc

-- whether all entries of rounds are within a bound, where there are rounds
abbrev all_within : {Entry End : Type 0} → (Entry → Bool) → Option (List (Round Entry End)) → Bool
all_within within None = true
all_within within (Some all) = list_all within (entries_of all)

-- what holds of a round and of those after it
record Alike {Message Entry End : Type 0} (within : Entry → Bool) (answer answer' : ℕ → Message → Plan (Round Entry End))
    (place : ℕ) (ms : List Message) (round : Round Entry End) (ended : Option End) (tape other : List Exchange) (words : List ℕ) : Type 0 where
  entries : list_all within round.entries ≡ true
  same : over_all (unless_ended ended (with_round round (rounds answer' place ms)) (Done (round ∷ []))) tape other words
      ≡ over_all (unless_ended ended (with_round round (rounds answer place ms)) (Done (round ∷ []))) tape other words

-- all that is entered is what a round enters and what those after it do
entered : {Entry End : Type 0} (within : Entry → Bool) (round : Round Entry End) (later all : List (Round Entry End))
    → Some (round ∷ later) ≡ Some all → list_all within (entries_of all) ≡ true
    → (list_all within round.entries ≡ true) × (list_all within (entries_of later) ≡ true)
entered within round later all is fits =
    and_parts _ _ (sym (list_all-append within round.entries (entries_of later)) ∙ ap (all_within within) is ∙ fits)

after_round : {Message Entry End : Type 0} (within : Entry → Bool) (answer answer' : ℕ → Message → Plan (Round Entry End))
    (place : ℕ) (ms : List Message)
    → ((tape other : List Exchange) (words : List ℕ) (all : List (Round Entry End))
    → (over_all (rounds answer place ms) tape other words).outcome ≡ Some all → list_all within (entries_of all) ≡ true
    → over_all (rounds answer' place ms) tape other words ≡ over_all (rounds answer place ms) tape other words)
    → (round : Round Entry End) (ended : Option End) (tape other : List Exchange) (words : List ℕ) (all : List (Round Entry End))
    → (over_all (unless_ended ended (with_round round (rounds answer place ms)) (Done (round ∷ []))) tape other words).outcome ≡ Some all
    → list_all within (entries_of all) ≡ true
    → Alike within answer answer' place ms round ended tape other words
after_round within answer answer' place ms later round None tape other words all is fits =
    let parts = in_parts (rounds answer place ms) (λ rounds. Done (round ∷ rounds)) tape other words all is in
    let both = entered within round parts.middle all parts.after fits in
    record {
      entries = both.0;
      same = over_same (rounds answer place ms) (rounds answer' place ms) (λ rounds. Done (round ∷ rounds)) (λ rounds. Done (round ∷ rounds)) tape other words
          (later tape other words parts.middle parts.before both.1) (λ rounds are. refl);
    }
after_round within answer answer' place ms later round (Some end) tape other words all is fits =
    record { entries = (entered within round [] all is fits).0; same = refl }

alike : {Message Entry End : Type 0} (within : Entry → Bool) (answer answer' : ℕ → Message → Plan (Round Entry End))
    → AnswersAlike within answer answer'
    → (place : ℕ) (ms : List Message) (tape other : List Exchange) (words : List ℕ) (all : List (Round Entry End))
    → (over_all (rounds answer place ms) tape other words).outcome ≡ Some all → list_all within (entries_of all) ≡ true
    → over_all (rounds answer' place ms) tape other words ≡ over_all (rounds answer place ms) tape other words
alike within answer answer' each place [] tape other words all is fits = refl
alike {Message} {Entry} {End} within answer answer' each place (m ∷ ms) tape other words all is fits =
    over_same (answer place m) (answer' place m) (going answer) (going answer') tape other words
    (each place m tape other words parts.middle parts.before (of_round (alike within answer answer' each (place + 1) ms) parts.middle parts.before).entries)
    (λ round came. (of_round (alike within answer answer' each (place + 1) ms) round came).same)
  where
    going : (ℕ → Message → Plan (Round Entry End)) → Round Entry End → Plan (List (Round Entry End))
    going by round = unless_ended round.ended (with_round round (rounds by (place + 1) ms)) (Done (round ∷ []))

    parts : InParts (answer place m) (going answer) tape other words all
    parts = in_parts (answer place m) (going answer) tape other words all is

    of_round : ((tape other : List Exchange) (words : List ℕ) (all : List (Round Entry End))
        → (over_all (rounds answer (place + 1) ms) tape other words).outcome ≡ Some all → list_all within (entries_of all) ≡ true
        → over_all (rounds answer' (place + 1) ms) tape other words ≡ over_all (rounds answer (place + 1) ms) tape other words)
        → (round : Round Entry End) → (over_all (answer place m) tape other words).outcome ≡ Some round
        → Alike within answer answer' (place + 1) ms round round.ended (over_all (answer place m) tape other words).left
        (over_all (answer place m) tape other words).left_other (over_all (answer place m) tape other words).left_words
    of_round later round came =
        after_round within answer answer' (place + 1) ms later round round.ended _ _ _ all
        (sym (outcome_bind (answer place m) (going answer) tape other words round came) ∙ is) fits

pub are_rounds_alike : (Message Entry End : Type 0) → AreRoundsAlike Message Entry End
are_rounds_alike Message Entry End within answer answer' each place ms tape other words all is fits =
    alike within answer answer' each place ms tape other words all is fits

-- the rounds of a session, where there are rounds
abbrev rounds_in : {Agreed Entry End : Type 0} → Option (Session Agreed Entry End) → Option (List (Round Entry End))
rounds_in None = None
rounds_in (Some all) = Some all.rounds

pub are_sessions_alike : (Message Agreed Entry End : Type 0) → AreSessionsAlike Message Agreed Entry End
are_sessions_alike Message Agreed Entry End within agree answer answer' each [] tape other words all is fits = refl
are_sessions_alike Message Agreed Entry End within agree answer answer' each (m ∷ ms) tape other words all is fits =
    over_same (agree m) (agree m) (going answer) (going answer') tape other words refl (λ agreed came. same agreed came)
  where
    going : (Message → Agreed → ℕ → Message → Plan (Round Entry End)) → Agreed → Plan (Session Agreed Entry End)
    going by agreed = bind (rounds (by m agreed) 1 (m ∷ ms)) (λ rounds. Done (record { agreed = Some agreed; rounds = rounds }))

    same : (agreed : Agreed) → (over_all (agree m) tape other words).outcome ≡ Some agreed
        → over_all (going answer' agreed) (over_all (agree m) tape other words).left (over_all (agree m) tape other words).left_other (over_all (agree m) tape other words).left_words
        ≡ over_all (going answer agreed) (over_all (agree m) tape other words).left (over_all (agree m) tape other words).left_other (over_all (agree m) tape other words).left_words
    same agreed came =
        let parts = in_parts (rounds (answer m agreed) 1 (m ∷ ms)) (λ rounds. Done (record { agreed = Some agreed; rounds = rounds })) _ _ _ all
        (sym (outcome_bind (agree m) (going answer) tape other words agreed came) ∙ is) in
        over_same (rounds (answer m agreed) 1 (m ∷ ms)) (rounds (answer' m agreed) 1 (m ∷ ms)) _ _ _ _ _
        (alike within (answer m agreed) (answer' m agreed) (each m agreed) 1 (m ∷ ms) _ _ _ parts.middle parts.before
        (ap (all_within within) (ap rounds_in parts.after) ∙ fits))
        (λ rounds are. refl)
