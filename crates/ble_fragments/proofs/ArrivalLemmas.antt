-- What a joiner's answer to a further fragment brings.
use Rattle.std.proofs.Common.{◌≡◌, ◌+◌, ◌≤◌, ◌<◌, ◌^◌, ℕ, List, [], ◌∷◌, ◌++◌, length, Bool, true, false, cond, ◌||◌, nat_lt, Option, Result, Ok, Err, refl, sym, ◌∙◌, ap, subst, append-nil, arith}
use Rattle.std.proofs.lemmas.Bool.{ltb-false}
use Rattle.std.proofs.lemmas.List.{append_cancel_left, length-append}
use Rattle.std.specs.List.{concat}
use Rattle.std.specs.Prelude.{IfOk, OnErr, eqb}
use Rattle.ble_fragments.proofs.OneMore.{one_more}
use Rattle.ble_fragments.specs.Joins.{Feeds, IsAnswer, Joined, Joins}
use Rattle.ble_fragments.specs.Next.{ended_at, next_by, next_piece}
use Rattle.ble_fragments.specs.Part.{Part, Piece, Start, Stop, Broken, part_of}
use Rattle.ble_fragments.specs.Whole.{Whole, is_too_long, whole}
use Rattle.ble_fragments.specs.declared.ending.Ending.{Ending}
use Rattle.ble_fragments.specs.declared.ending.Ending.TheVariants.{Open, Peer, Bad}
use Rattle.ble_fragments.specs.declared.fed.Fed.{Fed}
use Rattle.ble_fragments.specs.declared.fed.Fed.TheVariants as fed
use Rattle.ble_fragments.specs.declared.join_fault.JoinFault.{JoinFault}
use Rattle.ble_fragments.specs.declared.join_fault.JoinFault.TheVariants as faults
use Rattle.mdoc_outside.specs.declared.fragment.Fragment.{Fragment}
use Rattle.mdoc_outside.specs.declared.fragment.Fragment.TheVariants.{Data, State}
use Rattle.mdoc_outside.specs.declared.memory.Memory.{Memory}
use Rattle.ble_fragments.specs.Arrivals.{Brings, BringsMessage, BringsNothing, IsShort, NoMessage, arrival_of, is_last}
use Rattle.ble_fragments.specs.declared.arrival.Arrival.{Arrival}

-- ---- how the list ends, by the answer

ending_message : (ending : Ending) (part : Part) (m : List ℕ) → IsAnswer ending part (Ok (fed.Message m)) → ending ≡ Open
ending_message Open part m answer = refl
ending_message Peer part m answer = absurd (cc)
ending_message (Bad fault) part m answer = absurd (cc)

ending_more : (ending : Ending) (part : Part) → IsAnswer ending part (Ok fed.More) → ending ≡ Open
ending_more Open part answer = refl
ending_more Peer part answer = absurd (cc)
ending_more (Bad fault) part answer = absurd (cc)

ending_started : (ending : Ending) (part : Part) → IsAnswer ending part (Ok fed.Started) → ending ≡ Open
ending_started Open part answer = refl
ending_started Peer part answer = absurd (cc)
ending_started (Bad fault) part answer = absurd (cc)

ending_ended : (ending : Ending) (part : Part) → IsAnswer ending part (Ok fed.Ended) → ending ≡ Peer
ending_ended Open (Piece true bytes) answer = absurd answer
ending_ended Open (Piece false bytes) answer = absurd (cc)
ending_ended Open Start answer = absurd (cc)
ending_ended Open Stop answer = absurd answer
ending_ended Open (Broken fault) answer = absurd answer
ending_ended Peer part answer = refl
ending_ended (Bad fault) part answer = absurd (cc)

ending_fault : (ending : Ending) (part : Part) (fault : JoinFault) → IsAnswer ending part (Err fault) → ending ≡ Bad fault
ending_fault Open (Piece true bytes) fault answer = absurd answer
ending_fault Open (Piece false bytes) fault answer = absurd (cc)
ending_fault Open Start fault answer = absurd (cc)
ending_fault Open Stop fault answer = absurd answer
ending_fault Open (Broken other) fault answer = absurd answer
ending_fault Peer part fault answer = absurd (cc)
ending_fault (Bad other) part fault answer = cc

-- ---- what is arrival

nothing : (came : List Fragment) (f : Fragment) (ending : Ending) (new : Joined)
    → (whole (came ++ f ∷ [])).messages ≡ (whole came).messages ++ [] → (whole (came ++ f ∷ [])).ending ≡ ending → Joins (came ++ f ∷ []) new
    → BringsNothing came f ending new
nothing came f ending new messages ends joins = record { same = messages ∙ append-nil (whole came).messages; ends = ends; joins = joins }

bad : (came : List Fragment) (f : Fragment) (fault : JoinFault) (new : Joined) → Feeds came f (Err fault) new → BringsNothing came f (Bad fault) new
bad came f fault new all =
    nothing came f (Bad fault) new all.messages (ending_fault (whole (came ++ f ∷ [])).ending (part_of f) fault all.answer) all.joins

-- Where memory wasn't wanting, what is arrival is what the answer brings.
pub brings : (came : List Fragment) (f : Fragment) (result : Result Fed JoinFault) (new : Joined)
    → (¬ (result ≡ Err faults.Memory) → Feeds came f result new) → IfOk (arrival_of result) (λ arrival. Brings came f arrival new)
brings came f (Ok (fed.Message m)) new feeds =
    let all = feeds (λ is. cc) in
    record { message = all.messages; goes_on = ending_message (whole (came ++ f ∷ [])).ending (part_of f) m all.answer; joins = all.joins }
brings came f (Ok fed.More) new feeds =
    let all = feeds (λ is. cc) in
    nothing came f Open new all.messages (ending_more (whole (came ++ f ∷ [])).ending (part_of f) all.answer) all.joins
brings came f (Ok fed.Started) new feeds =
    let all = feeds (λ is. cc) in
    nothing came f Open new all.messages (ending_started (whole (came ++ f ∷ [])).ending (part_of f) all.answer) all.joins
brings came f (Ok fed.Ended) new feeds =
    let all = feeds (λ is. cc) in
    nothing came f Peer new all.messages (ending_ended (whole (came ++ f ∷ [])).ending (part_of f) all.answer) all.joins
brings came f (Err faults.EmptyFragment) new feeds = bad came f faults.EmptyFragment new (feeds (λ is. cc))
brings came f (Err (faults.BadLead lead)) new feeds = bad came f (faults.BadLead lead) new (feeds (λ is. cc))
brings came f (Err (faults.BadState value)) new feeds = bad came f (faults.BadState value) new (feeds (λ is. cc))
brings came f (Err faults.TooLong) new feeds = bad came f faults.TooLong new (feeds (λ is. cc))
brings came f (Err faults.Memory) new feeds = tt

-- Where memory was wanting, nothing changed; so the joiner stands for some fragments in any case.
pub still_joins : (came : List Fragment) (f : Fragment) (result : Result Fed JoinFault) (old new : Joined)
    → (¬ (result ≡ Err faults.Memory) → Feeds came f result new) → (result ≡ Err faults.Memory → new ≡ old) → Joins came old
    → (now : List Fragment) × Joins now new
still_joins came f (Ok answer) old new feeds same joins = (came ++ f ∷ [], (feeds (λ is. cc)).joins)
still_joins came f (Err faults.EmptyFragment) old new feeds same joins = (came ++ f ∷ [], (feeds (λ is. cc)).joins)
still_joins came f (Err (faults.BadLead lead)) old new feeds same joins = (came ++ f ∷ [], (feeds (λ is. cc)).joins)
still_joins came f (Err (faults.BadState value)) old new feeds same joins = (came ++ f ∷ [], (feeds (λ is. cc)).joins)
still_joins came f (Err faults.TooLong) old new feeds same joins = (came ++ f ∷ [], (feeds (λ is. cc)).joins)
still_joins came f (Err faults.Memory) old new feeds same joins = (came, same refl ∙ joins)

pub same_without_memory : (result : Result Fed JoinFault) (old new : Joined) → (result ≡ Err faults.Memory → new ≡ old) → OnErr (arrival_of result) (new ≡ old)
same_without_memory (Ok (fed.Message m)) old new same = tt
same_without_memory (Ok fed.More) old new same = tt
same_without_memory (Ok fed.Started) old new same = tt
same_without_memory (Ok fed.Ended) old new same = tt
same_without_memory (Err faults.EmptyFragment) old new same = tt
same_without_memory (Err (faults.BadLead lead)) old new same = tt
same_without_memory (Err (faults.BadState value)) old new same = tt
same_without_memory (Err faults.TooLong) old new same = tt
same_without_memory (Err faults.Memory) old new same = same refl

-- ---- the length of a message

longer : (list : List (List ℕ)) (m : List ℕ) → list ≡ list ++ m ∷ [] → ⊥
longer list m is = omega (arith, ap length is, length-append list (m ∷ []))

right_of : (a b : Bool) → (a || b) ≡ false → b ≡ false
right_of true b is = absurd (cc)
right_of false b is = is

within : (group : List (List ℕ)) → is_too_long group ≡ false → length (concat group) ≤ 1048576
unfolding is_too_long
within group is = ltb-false 1048576 (length (concat group)) (right_of _ _ is)

head_is : (m n : List ℕ) → m ∷ [] ≡ n ∷ [] → m ≡ n
head_is m n is = cc

short_piece : (of : Whole) (last : Bool) (bytes m : List ℕ) (long : Bool) → is_too_long (of.rest ++ bytes ∷ []) ≡ long
    → (cond long (ended_at of (Bad faults.TooLong)) (next_piece last of bytes)).messages ≡ of.messages ++ m ∷ [] → length m ≤ 1048576
short_piece of last bytes m true long is = absurd (longer of.messages m is)
short_piece of false bytes m false long is = absurd (longer of.messages m is)
short_piece of true bytes m false long is =
    subst (λ (n : List ℕ). length n ≤ 1048576) (head_is _ _ (append_cancel_left of.messages (concat (of.rest ++ bytes ∷ []) ∷ []) (m ∷ []) is))
    (within (of.rest ++ bytes ∷ []) long)

short_next : (ending : Ending) (of : Whole) (part : Part) (m : List ℕ) → (next_by ending of part).messages ≡ of.messages ++ m ∷ [] → length m ≤ 1048576
short_next Open of (Piece last bytes) m is = short_piece of last bytes m (is_too_long (of.rest ++ bytes ∷ [])) refl is
short_next Open of Start m is = absurd (longer of.messages m is)
short_next Open of Stop m is = absurd (longer of.messages m is)
short_next Open of (Broken fault) m is = absurd (longer of.messages m is)
short_next Peer of part m is = absurd (longer of.messages m is)
short_next (Bad fault) of part m is = absurd (longer of.messages m is)

-- A message of the list isn't longer than one that a session opens.
pub is_short : (came : List Fragment) (f : Fragment) (result : Result Fed JoinFault) (new : Joined)
    → (¬ (result ≡ Err faults.Memory) → Feeds came f result new) → IfOk (arrival_of result) (λ arrival. IsShort arrival)
is_short came f (Ok (fed.Message m)) new feeds =
    let most : length m ≤ 1048576 =
    short_next (whole came).ending (whole came) (part_of f) m (sym (ap (λ (of : Whole). of.messages) (one_more came f)) ∙ (feeds (λ is. cc)).messages) in
    omega arith
is_short came f (Ok fed.More) new feeds = tt
is_short came f (Ok fed.Started) new feeds = tt
is_short came f (Ok fed.Ended) new feeds = tt
is_short came f (Err faults.EmptyFragment) new feeds = tt
is_short came f (Err (faults.BadLead lead)) new feeds = tt
is_short came f (Err (faults.BadState value)) new feeds = tt
is_short came f (Err faults.TooLong) new feeds = tt
is_short came f (Err faults.Memory) new feeds = tt

-- ---- a fragment that ends no message

no_last : (f : Fragment) (m : List ℕ) → is_last f ≡ false → (ending : Ending) → IsAnswer ending (part_of f) (Ok (fed.Message m)) → ⊥
no_last (Data []) m part Open answer = answer
no_last (Data (lead ∷ bytes)) m part Open answer = by (eqb lead 0) (eqb lead 1) part answer
  where
    by : (zero one : Bool) → zero ≡ false
        → IsAnswer Open (cond zero (Piece true bytes) (cond one (Piece false bytes) (Broken (faults.BadLead lead)))) (Ok (fed.Message m)) → ⊥
    by true one is answer = cc
    by false true is answer = cc
    by false false is answer = answer
no_last (State value) m part Open answer = by (eqb value 1) (eqb value 2) answer
  where
    by : (one two : Bool) → IsAnswer Open (cond one Start (cond two Stop (Broken (faults.BadState value)))) (Ok (fed.Message m)) → ⊥
    by true two answer = cc
    by false true answer = answer
    by false false answer = answer
no_last f m part Peer answer = cc
no_last f m part (Bad fault) answer = cc

pub no_message : (came : List Fragment) (f : Fragment) (result : Result Fed JoinFault) (new : Joined) → is_last f ≡ false
    → (¬ (result ≡ Err faults.Memory) → Feeds came f result new) → IfOk (arrival_of result) (λ arrival. NoMessage arrival)
no_message came f (Ok (fed.Message m)) new part feeds = no_last f m part (whole (came ++ f ∷ [])).ending (feeds (λ is. cc)).answer
no_message came f (Ok fed.More) new part feeds = tt
no_message came f (Ok fed.Started) new part feeds = tt
no_message came f (Ok fed.Ended) new part feeds = tt
no_message came f (Err faults.EmptyFragment) new part feeds = tt
no_message came f (Err (faults.BadLead lead)) new part feeds = tt
no_message came f (Err (faults.BadState value)) new part feeds = tt
no_message came f (Err faults.TooLong) new part feeds = tt
no_message came f (Err faults.Memory) new part feeds = tt
