-- How the rounds of messages follow the definition.
use Rattle.std.proofs.Common.{◌≡◌, ◌<◌, ◌≤◌, ◌+◌, ℕ, List, [], ◌∷◌, length, drop, get_or, take, ◌-◌, Bool, false, Option, Some, None, Result, Ok, Err, refl, sym, ◌∙◌, ap, subst, arith}
use Rattle.std.proofs.Math.Seq.{take-length}
use Rattle.std.proofs.lemmas.Bool.Decides.{nat_tests}
use Rattle.std.specs.Global.{Vec}
use Rattle.std.specs.Prelude.{◌==◌, if◌then◌else◌, IfOk, option_map}
use Rattle.key_device.proofs.PlanEquations.{bind_bind, bind_same}
use Rattle.key_device.proofs.PlanLemmas.{cut_short, ended, halted, then_more, unasked}
use Rattle.key_device.specs.Plan.{Done, Follows, Plan, bind}
use Rattle.key_device.specs.declared.exchange.Exchange.{Exchange}
use Rattle.mdoc_outside.specs.declared.memory.Memory.{Memory}
use Rattle.round_model.specs.Rounds.{rounds, unless_ended, with_round}
use Rattle.session_seal.specs.Wallet.{WalletOpened, WalletSession, WalletStart, next_place, wallet_establishes}
use Rattle.wallet_model.specs.Round.{WalletRound, later_opened, round, round_of, session_at}
use Rattle.wallet_model.specs.Setup.{Setup}
use Rattle.wallet_model.specs.Wallet.{WalletRounds, wallet_session}
use Rattle.wallet_core.specs.RoundView.{GoesOn, end_after, round_seen}
use Rattle.wallet_core.specs.declared.after_round.AfterRound.{AfterRound}
use Rattle.wallet_core.specs.declared.after_round.AfterRound.TheVariants.{Open, Ended}
use Rattle.wallet_core.specs.declared.round.Round.{Round}
use Rattle.wallet_core.specs.Rounds.{First, GoesOnFrom, IsFirstRound, IsNextRound, IsWanting, IsWithin, first_plan, next_plan}
use Rattle.wallet_core.specs.declared.want_of_memory.WantOfMemory.{WantOfMemory}
use Rattle.wallet_core.specs.declared.want_of_memory.WantOfMemory.TheVariants.{Back, Spent}
use Rattle.plain_wallet.specs.Rounds.{AreRounds, AreRoundsAfter, FollowAfter}

-- ---- the session after a round

-- where a session goes on after a round, it is that of the first message at this place
abbrev Leads : WalletOpened → ℕ → AfterRound → Type 0
Leads opened place (Open next) = (first : WalletSession) × (text : List ℕ) × (opened ≡ Ok (first, text)) × (next ≡ session_at first place)
Leads opened place (Ended end) = Unit {0}

first_leads : (opened : WalletOpened) (after : AfterRound) → GoesOnFrom opened after → Leads opened 2 after
first_leads (Ok first) (Open next) goes = (first.0, first.1, refl, goes)
first_leads (Err ending) (Open next) goes = absurd goes
first_leads opened (Ended end) goes = tt

next_leads : (first session : WalletSession) (text : List ℕ) (after : AfterRound) → session ≡ session_at first session.place → GoesOn session after
    → Leads (Ok (first, text)) (session.place + 1) after
next_leads first session text (Open next) at goes = (first, text, refl, goes.0 ∙ ap next_place at)
next_leads first session text (Ended end) at goes = tt

-- ---- a round and those after it

-- a round before others, of which it may be that memory was wanting
abbrev pub after_one : WalletRound → Option (List WalletRound) → Option (List WalletRound)
after_one r all = option_map (λ (later : List WalletRound). r ∷ later) all

one_before : {p : Plan (List WalletRound)} (r : WalletRound) (all : Option (List WalletRound)) {mid new : List Exchange}
    → Follows p mid new all → Follows (with_round r p) mid new (after_one r all)
one_before r (Some all) {mid} {new} follows = then_more (λ (later : List WalletRound). Done (r ∷ later)) follows (ended new)
one_before r None follows = cut_short (λ (later : List WalletRound). Done (r ∷ later)) follows

round_before : (W : Setup) (opened : WalletOpened) (place : ℕ) (ms : List (List ℕ)) (r : WalletRound) (after : AfterRound) (all : Option (List WalletRound)) {mid new : List Exchange}
    → Leads opened place after → FollowAfter W after ms mid new all
    → Follows (unless_ended (end_after after) (with_round r (rounds (round W opened) place ms)) (Done (r ∷ []))) mid new (after_one r all)
round_before W opened place ms r (Open next) all {mid} {new} leads follows =
    one_before r all
    (subst (λ (found : WalletOpened). Follows (rounds (round W found) place ms) mid new all) (sym leads.2)
    (subst (λ (s : WalletSession). FollowAfter W (Open s) ms mid new all) leads.3 follows leads.0 leads.1 refl))
round_before W opened place ms r (Ended end) all leads follows = one_before r all follows

-- ---- a later message

later_place : (place : ℕ) → 1 < place → (place == 1) ≡ false
later_place place later = grind (arith, nat_tests)

-- the round at a later place is that of the session at it
later_round : (W : Setup) (first session : WalletSession) (text m : List ℕ) → 1 < session.place → session ≡ session_at first session.place
    → round W (Ok (first, text)) session.place m ≡ next_plan W session m
unfolding round
later_round W first session text m later at =
    ap (λ (b : Bool). round_of W (if b then Ok (first, text) else later_opened (Ok (first, text)) session.place m)) (later_place session.place later)
    ∙ ap (λ (s : WalletSession). next_plan W s m) (sym at)

later_plan : (W : Setup) (first session : WalletSession) (text m : List ℕ) (outcome : Option WalletRound) {old mid : List Exchange} → 1 < session.place → session ≡ session_at first session.place
    → Follows (next_plan W session m) old mid outcome → Follows (round W (Ok (first, text)) session.place m) old mid outcome
later_plan W first session text m outcome {old} {mid} later at follows =
    subst (λ (p : Plan WalletRound). Follows p old mid outcome) (sym (later_round W first session text m later at)) follows

-- how the plan goes on after a round
abbrev then_rounds : Setup → WalletOpened → ℕ → List (List ℕ) → WalletRound → Plan (List WalletRound)
then_rounds W opened place ms r = unless_ended r.ended (with_round r (rounds (round W opened) place ms)) (Done (r ∷ []))

later_rounds : (W : Setup) (session : WalletSession) (m : List ℕ) (ms : List (List ℕ)) (r : Round) (all : Option (List WalletRound)) {old mid new : List Exchange}
    → 1 < session.place → IsNextRound W session m old mid (Ok r) → FollowAfter W r.after ms mid new all
    → FollowAfter W (Open session) (m ∷ ms) old new (after_one (round_seen r) all)
later_rounds W session m ms r all later is follows = λ first text at.
    then_more (then_rounds W (Ok (first, text)) (session.place + 1) ms)
    (later_plan W first session text m (Some (round_seen r)) later at is.0)
    (round_before W (Ok (first, text)) (session.place + 1) ms (round_seen r) r.after all (next_leads first session text r.after at is.1) follows)

-- ---- want of memory

was_wanting : {S A : Type 0} (p : Plan A) (state : S) {old new : List Exchange} (wanting : WantOfMemory S) → IsWanting p state old new wanting → Follows p old new None
was_wanting p state (Back same) is = unasked is.1
was_wanting p state Spent is = is.0

pub later_wanting : (W : Setup) (session : WalletSession) (m : List ℕ) (ms : List (List ℕ)) (wanting : WantOfMemory WalletSession) {old new : List Exchange}
    → 1 < session.place → IsNextRound W session m old new (Err wanting) → FollowAfter W (Open session) (m ∷ ms) old new None
later_wanting W session m ms wanting later is = λ first text at.
    cut_short (then_rounds W (Ok (first, text)) (session.place + 1) ms)
    (later_plan W first session text m None later at (was_wanting (next_plan W session m) session wanting is))

-- the rounds were all followed, and memory was wanting to list them
came_after : (W : Setup) (session : WalletSession) (ms : List (List ℕ)) (all : List WalletRound) (result : Result (Vec WalletRound) Memory) {old new : List Exchange}
    → IfOk result (λ v. v.items ≡ all) → FollowAfter W (Open session) ms old new (Some all) → AreRoundsAfter W (Open session) ms old new result
came_after W session ms all (Ok v) {old} {new} is follows = subst (λ (list : List WalletRound). FollowAfter W (Open session) ms old new (Some list)) (sym is) follows
came_after W session ms all (Err wanting) is follows = λ first text at. halted (follows first text at)

-- one message more at the front, of a session that goes on
pub message_before : (W : Setup) (session : WalletSession) (m : List ℕ) (ms : List (List ℕ)) (r : Round) (all : List WalletRound) (result : Result (Vec WalletRound) Memory) {old mid new : List Exchange}
    → 1 < session.place → IsNextRound W session m old mid (Ok r) → FollowAfter W r.after ms mid new (Some all)
    → IfOk result (λ v. v.items ≡ round_seen r ∷ all) → AreRoundsAfter W (Open session) (m ∷ ms) old new result
message_before W session m ms r all result later is follows joined =
    came_after W session (m ∷ ms) (round_seen r ∷ all) result joined (later_rounds W session m ms r (Some all) later is follows)

pub wanting_after : (W : Setup) (session : WalletSession) (m : List ℕ) (ms : List (List ℕ)) (r : Round) {old mid new : List Exchange}
    → 1 < session.place → IsNextRound W session m old mid (Ok r) → FollowAfter W r.after ms mid new None
    → FollowAfter W (Open session) (m ∷ ms) old new None
wanting_after W session m ms r later is follows = later_rounds W session m ms r None later is follows

-- no message more
pub no_message : (W : Setup) (session : WalletSession) (talk : List Exchange) → FollowAfter W (Open session) [] talk talk (Some [])
no_message W session talk = λ first text at. ended talk

pub over : (W : Setup) (end : _) (ms : List (List ℕ)) (talk : List Exchange) → FollowAfter W (Ended end) ms talk talk (Some [])
over W end ms talk = ended talk

-- ---- the first message

abbrev agreed_rounds : WalletOpened → List WalletRound → Plan WalletRounds
agreed_rounds opened list = Done (record { agreed = Some opened; rounds = list })

abbrev then_session : Setup → List (List ℕ) → WalletOpened × WalletRound → Plan WalletRounds
then_session W ms pair = bind (then_rounds W pair.0 2 ms pair.1) (agreed_rounds pair.0)

from_opened : (W : Setup) (opened : WalletOpened) (m : List ℕ) (ms : List (List ℕ))
    → bind (rounds (round W opened) 1 (m ∷ ms)) (agreed_rounds opened) ≡ bind (bind (round_of W opened) (λ (r : WalletRound). Done (opened, r))) (then_session W ms)
unfolding round
from_opened W opened m ms =
    bind_bind (round_of W opened) (then_rounds W opened 2 ms) (agreed_rounds opened)
    ∙ sym (bind_bind (round_of W opened) (λ (r : WalletRound). Done (opened, r)) (then_session W ms))

from_first : (W : Setup) (start : WalletStart) (m : List ℕ) (ms : List (List ℕ))
    → wallet_session W start (m ∷ ms) ≡ bind (first_plan W start m) (then_session W ms)
from_first W start m ms =
    bind_same (wallet_establishes start m) _ _ (λ opened. from_opened W opened m ms)
    ∙ sym (bind_bind (wallet_establishes start m) (λ (opened : WalletOpened). bind (round_of W opened) (λ (r : WalletRound). Done (opened, r))) (then_session W ms))

by_first : (W : Setup) (start : WalletStart) (m : List ℕ) (ms : List (List ℕ)) (outcome : Option WalletRounds) {old new : List Exchange}
    → Follows (bind (first_plan W start m) (then_session W ms)) old new outcome → Follows (wallet_session W start (m ∷ ms)) old new outcome
by_first W start m ms outcome {old} {new} follows =
    subst (λ (p : Plan WalletRounds). Follows p old new outcome) (sym (from_first W start m ms)) follows

first_rounds : (W : Setup) (start : WalletStart) (m : List ℕ) (ms : List (List ℕ)) (r : Round) (all : List WalletRound) {old mid new : List Exchange}
    → (is : First W start m old mid r) → FollowAfter W r.after ms mid new (Some all)
    → Follows (wallet_session W start (m ∷ ms)) old new (Some (record { agreed = Some is.opened; rounds = round_seen r ∷ all }))
first_rounds W start m ms r all {new = new} is follows =
    by_first W start m ms _
    (then_more (then_session W ms) is.follows
    (then_more (agreed_rounds is.opened)
    (round_before W is.opened 2 ms (round_seen r) r.after (Some all) (first_leads is.opened r.after is.goes_on) follows)
    (ended new)))

pub session_wanting_after : (W : Setup) (start : WalletStart) (m : List ℕ) (ms : List (List ℕ)) (r : Round) {old mid new : List Exchange}
    → First W start m old mid r → FollowAfter W r.after ms mid new None → Follows (wallet_session W start (m ∷ ms)) old new None
session_wanting_after W start m ms r is follows =
    by_first W start m ms None
    (then_more (then_session W ms) is.follows
    (cut_short (agreed_rounds is.opened)
    (round_before W is.opened 2 ms (round_seen r) r.after None (first_leads is.opened r.after is.goes_on) follows)))

pub session_wanting : (W : Setup) (start : WalletStart) (m : List ℕ) (ms : List (List ℕ)) (wanting : WantOfMemory WalletStart) {old new : List Exchange}
    → IsFirstRound W start m old new (Err wanting) → Follows (wallet_session W start (m ∷ ms)) old new None
session_wanting W start m ms wanting is =
    by_first W start m ms None (cut_short (then_session W ms) (was_wanting (first_plan W start m) start wanting is))

came_session : (W : Setup) (start : WalletStart) (ms : List (List ℕ)) (agreed : Option WalletOpened) (all : List WalletRound) (result : Result (Vec WalletRound) Memory) {old new : List Exchange}
    → IfOk result (λ v. v.items ≡ all) → Follows (wallet_session W start ms) old new (Some (record { agreed = agreed; rounds = all }))
    → AreRounds W start ms old new result
came_session W start ms agreed all (Ok v) {old} {new} is follows = record {
  agreed = agreed;
  follows = subst (λ (list : List WalletRound). Follows (wallet_session W start ms) old new (Some (record { agreed = agreed; rounds = list }))) (sym is) follows;
}
came_session W start ms agreed all (Err wanting) is follows = halted follows

pub session_before : (W : Setup) (start : WalletStart) (m : List ℕ) (ms : List (List ℕ)) (r : Round) (all : List WalletRound) (result : Result (Vec WalletRound) Memory) {old mid : List Exchange} (new : List Exchange)
    → First W start m old mid r → FollowAfter W r.after ms mid new (Some all)
    → IfOk result (λ v. v.items ≡ round_seen r ∷ all) → AreRounds W start (m ∷ ms) old new result
session_before W start m ms r all result new is follows joined =
    came_session W start (m ∷ ms) (Some is.opened) (round_seen r ∷ all) result joined (first_rounds W start m ms r all is follows)

pub no_session : (W : Setup) (start : WalletStart) (v : Vec WalletRound) (talk : List Exchange) → v.items ≡ [] → AreRounds W start [] talk talk (Ok v)
no_session W start v talk empty = came_session W start [] None [] (Ok v) empty (ended talk)

-- ---- the first of messages, and those after it

-- the messages after the first, as a slice of them all
abbrev pub later_than_first : List (List ℕ) → List (List ℕ)
later_than_first messages = take (length messages - 1) (drop 1 messages)

first_of : (messages : List (List ℕ)) (m : List ℕ) → 1 ≤ length messages → m ≡ get_or messages 0 m → messages ≡ m ∷ later_than_first messages
first_of [] m some is = absurd (omega (arith, some))
first_of (one ∷ ms) m some is =
    ap (λ (first : List ℕ). first ∷ ms) (sym is)
    ∙ ap (λ (later : List (List ℕ)). m ∷ later) (sym (take-length ms) ∙ ap (λ (n : ℕ). take n ms) count)
  where
    count : length ms ≡ length (one ∷ ms) - 1
    count = omega arith

-- a session that goes on is at the place of a later message
pub is_later : (after : AfterRound) (session : WalletSession) → after ≡ Open session → IsWithin after → 1 < session.place
is_later after session goes within =
    let is : IsWithin (Open session) = subst IsWithin goes within in is.0

pub at_front : (W : Setup) (after : AfterRound) (session : WalletSession) (messages : List (List ℕ)) (m : List ℕ) (old new : List Exchange) (result : Result (Vec WalletRound) Memory)
    → after ≡ Open session → 1 ≤ length messages → m ≡ get_or messages 0 m → AreRoundsAfter W (Open session) (m ∷ later_than_first messages) old new result
    → AreRoundsAfter W after messages old new result
at_front W after session messages m old new result goes some is rounds =
    subst (λ (now : AfterRound). AreRoundsAfter W now messages old new result) (sym goes)
    (subst (λ (list : List (List ℕ)). AreRoundsAfter W (Open session) list old new result) (sym (first_of messages m some is)) rounds)

pub session_at_front : (W : Setup) (start : WalletStart) (messages : List (List ℕ)) (m : List ℕ) (old new : List Exchange) (result : Result (Vec WalletRound) Memory)
    → 1 ≤ length messages → m ≡ get_or messages 0 m → AreRounds W start (m ∷ later_than_first messages) old new result → AreRounds W start messages old new result
session_at_front W start messages m old new result some is rounds =
    subst (λ (list : List (List ℕ)). AreRounds W start list old new result) (sym (first_of messages m some is)) rounds
