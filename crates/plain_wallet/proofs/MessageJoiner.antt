-- The messages of the fragments so far, and how they end.
use Rattle.std.proofs.Common.{◌≡◌, ◌<◌, ◌+◌, ℕ, suc, List, [], ◌∷◌, ◌++◌, length, take, get_or, refl, sym, ◌∙◌, ap, subst, append-nil, arith}
use Rattle.std.specs.List.{All}
use Rattle.std.proofs.Math.Seq.{take-suc}
use Rattle.std.proofs.lemmas.List.Elements.{All-append, All-cons, All-nil}
use Rattle.ble_fragments.specs.Joins.{Joined, Joins}
use Rattle.ble_fragments.specs.Whole.{whole}
use Rattle.ble_fragments.specs.declared.ending.Ending.{Ending}
use Rattle.ble_fragments.specs.declared.ending.Ending.TheVariants.{Open}
use Rattle.mdoc_outside.specs.declared.fragment.Fragment.{Fragment}
use Rattle.ble_fragments.specs.Arrivals as hearing
use Rattle.ble_fragments.specs.declared.arrival.Arrival.{Arrival}
use Rattle.ble_fragments.specs.declared.arrival.Arrival.TheVariants.{Message, Nothing}
use Rattle.plain_wallet.specs.Joined.{ending_heard, messages_heard}
use Rattle.plain_wallet.specs.Rounds.{IsShort}

-- what is known of the fragments so far
pub record SoFar (came : List Fragment) (joined : Joined) (list : List (List ℕ)) (end : Ending) : Type 0 where
  pub joins : Joins came joined
  pub messages : list ≡ (whole came).messages
  pub ending : end ≡ (whole came).ending
  pub short : All IsShort list

pub nothing_yet : (joined : Joined) → Joins [] joined → SoFar [] joined [] Open
unfolding whole
nothing_yet joined joins = record { joins = joins; messages = refl; ending = refl; short = All-nil IsShort }

heard_more : (came : List Fragment) (f : Fragment) (arrival : Arrival) (old new : Joined) (before : List (List ℕ)) (ended : Ending)
    → SoFar came old before ended → hearing.Brings came f arrival new → hearing.IsShort arrival
    → SoFar (came ++ f ∷ []) new (before ++ messages_heard arrival) (ending_heard arrival)
heard_more came f (Message m) old new before ended so brings short = record {
  joins = brings.joins;
  messages = ap (λ (list : List (List ℕ)). list ++ m ∷ []) so.messages ∙ sym brings.message;
  ending = sym brings.goes_on;
  short = All-append IsShort before (m ∷ []) so.short (All-cons IsShort m [] short (All-nil IsShort));
}
heard_more came f (Nothing ending) old new before ended so brings short = record {
  joins = brings.joins;
  messages = append-nil before ∙ so.messages ∙ sym brings.same;
  ending = sym brings.ends;
  short = subst (λ (list : List (List ℕ)). All IsShort list) (sym (append-nil before)) so.short;
}

-- with one fragment more of a list
pub one_more : (fragments : List Fragment) (i : ℕ) (f : Fragment) (arrival : Arrival) (old new : Joined) (before after : List (List ℕ)) (ended ending : Ending)
    → i < length fragments → f ≡ get_or fragments i f
    → SoFar (take i fragments) old before ended
    → ((came : List Fragment) → Joins came old → hearing.Brings came f arrival new) → hearing.IsShort arrival
    → after ≡ before ++ messages_heard arrival → ending ≡ ending_heard arrival
    → SoFar (take (i + 1) fragments) new after ending
one_more fragments i f arrival old new before after ended ending within is so brings short added ends =
    subst (λ (came : List Fragment). SoFar came new after ending) (sym more)
    (subst (λ (list : List (List ℕ)). SoFar (take i fragments ++ f ∷ []) new list ending) (sym added)
    (subst (λ (e : Ending). SoFar (take i fragments ++ f ∷ []) new (before ++ messages_heard arrival) e) (sym ends)
    (heard_more (take i fragments) f arrival old new before ended so (brings (take i fragments) so.joins) short)))
  where
    next : i + 1 ≡ suc i
    next = omega arith

    more : take (i + 1) fragments ≡ take i fragments ++ f ∷ []
    more = ap (λ (k : ℕ). take k fragments) next ∙ take-suc fragments i f within ∙ ap (λ (g : Fragment). take i fragments ++ g ∷ []) (sym is)
