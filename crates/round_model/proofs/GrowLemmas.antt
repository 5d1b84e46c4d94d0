-- What the rounds of messages with one more at the end give.
use Rattle.std.proofs.Common.{◌≡◌, ℕ, List, [], ◌∷◌, ◌++◌, ◌+◌, length, Option, Some, None, refl, sym, ◌∙◌, ap, append-nil}
use Rattle.std.proofs.lemmas.List.Elements.{filter_map-append}
use Rattle.std.proofs.lemmas.Grind.{flat_map-append}
use Rattle.key_device.specs.Plan.{Plan, Done, bind, over_all}
use Rattle.key_device.specs.declared.exchange.Exchange.{Exchange}
use Rattle.round_model.specs.Rounds.{Round, unless_ended, rounds, replies_of, entries_of, end_of_rounds}
use Rattle.round_model.specs.RoundLaws.{with_message, RoundsGrow}
use Rattle.round_model.proofs.AlikeLemmas.{in_parts}
use Rattle.round_model.proofs.RoundLemmas.{is_one_round_more}

-- the rounds of a list, where there is one
abbrev list_of : {X : Type 0} → Option (List X) → List X
list_of None = []
list_of (Some xs) = xs

-- what the last message adds
record Added {Entry End : Type 0} (before all : List (Round Entry End)) : Type 0 where
  last : List (Round Entry End)
  joined : all ≡ before ++ last
  ended : (end : End) → end_of_rounds before ≡ Some end → last ≡ []

added : {Message Entry End : Type 0} (answer : ℕ → Message → Plan (Round Entry End)) (place : ℕ) (m : Message)
    (before all : List (Round Entry End)) (ended : Option End) (tape other : List Exchange) (words : List ℕ)
    → end_of_rounds before ≡ ended
    → (over_all (unless_ended ended (bind (answer place m) (λ round. Done (before ++ round ∷ []))) (Done before)) tape other words).outcome ≡ Some all
    → Added before all
added answer place m before all None tape other words goes is =
    let parts = in_parts (answer place m) (λ round. Done (before ++ round ∷ [])) tape other words all is in
    record {
      last = parts.middle ∷ [];
      joined = sym (ap list_of parts.after);
      ended = λ end ends. cc;
    }
added answer place m before all (Some end) tape other words ends is =
    record { last = []; joined = sym (ap list_of is) ∙ sym (append-nil before); ended = λ e was. refl }

pub rounds_grow : (Message Entry End : Type 0) → RoundsGrow Message Entry End
rounds_grow Message Entry End answer place ms m tape other words all is =
    let parts = in_parts (rounds answer place ms) (with_message answer (place + length ms) m) tape other words all
    (ap (λ (p : Plan (List (Round Entry End))). (over_all p tape other words).outcome) (sym (is_one_round_more Message Entry End answer place ms m)) ∙ is) in
    let more = added answer (place + length ms) m parts.middle all (end_of_rounds parts.middle) _ _ _ refl parts.after in
    record {
      before = parts.middle;
      came = parts.before;
      last = more.last;
      joined = more.joined;
      replies = ap replies_of more.joined ∙ filter_map-append (λ round. round.reply) parts.middle more.last;
      entries = ap entries_of more.joined ∙ flat_map-append (λ round. round.entries) parts.middle more.last;
      ended = more.ended;
    }
