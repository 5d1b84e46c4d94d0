-- What a node stands for after one fragment more.
use Rattle.std.proofs.Common.{◌≡◌, ◌<◌, ◌+◌, ℕ, List, [], ◌∷◌, ◌++◌, length, Option, Some, None, Result, Ok, Err, refl, sym, ◌∙◌, ap, subst, append-nil, arith}
use Rattle.ble_fragments.specs.Joins.{Joined, Joins}
use Rattle.ble_fragments.specs.Whole.{whole}
use Rattle.ble_fragments.specs.declared.ending.Ending as lists
use Rattle.ble_fragments.specs.declared.ending.Ending.TheVariants.{Open, Peer, Bad}
use Rattle.key_device.specs.Plan.{Follows}
use Rattle.key_device.specs.declared.exchange.Exchange.{Exchange}
use Rattle.mdoc_outside.specs.declared.fragment.Fragment.{Fragment}
use Rattle.mdoc_outside.specs.declared.memory.Memory.{Memory}
use Rattle.ble_fragments.specs.Arrivals.{BringsMessage, BringsNothing}
use Rattle.round_model.specs.Rounds.{end_of_rounds}
use Rattle.session_seal.specs.Wallet.{WalletOpened, WalletSession, WalletStart, next_place}
use Rattle.session_seal.specs.declared.wallet_end.WalletEnd.{WalletEnd}
use Rattle.wallet_model.specs.Round.{WalletRound, session_at}
use Rattle.wallet_model.specs.Setup.{Setup}
use Rattle.wallet_model.specs.Stands as states
use Rattle.wallet_model.specs.Stands.{AwaitsFirst, AwaitsNext, KeepsState, Node, NodeState, StandsFor}
use Rattle.wallet_model.specs.Wallet.{Run, WalletRounds}
use Rattle.wallet_model.specs.declared.released_at.ReleasedAt.{ReleasedAt}
use Rattle.wallet_core.specs.RoundView.{GoesOn, end_after, round_seen}
use Rattle.wallet_core.specs.declared.after_round.AfterRound.{AfterRound}
use Rattle.wallet_core.specs.declared.after_round.AfterRound.TheVariants as rounds
use Rattle.wallet_core.specs.declared.round.Round.{Round}
use Rattle.wallet_core.specs.Rounds.{First, GoesOnFrom, next_plan}
use Rattle.wallet_model.proofs.Taken.{is_answered, is_list_end, is_quiet, is_round_end}
use Rattle.wallet_model.specs.Taking.{IsLive, Took, list_end, node_with, rounds_with, with_round}
use Rattle.wallet_core.proofs.Rounds.{HasReply, first_followed, first_reply, next_followed, next_reply}
use Rattle.wallet_core.specs.Answering.{Answers, IsRoundOf}
use Rattle.wallet_core.specs.NodeView.{node_in}
use Rattle.wallet_core.specs.StateView.{after_state}
use Rattle.wallet_core.specs.Taking.{Listens, Takes, listened}
use Rattle.wallet_core.specs.declared.reply.Reply.{Reply}

-- the same, of a node and an answer that are equal
same_took : {W : Setup} {words : List ℕ} {now : List Fragment} {begun talk : List Exchange} {before : Run} {node node' : Node} {message message' : Option (List ℕ)} {ended ended' : Option WalletEnd}
    → Took W words now begun talk before node message ended → node' ≡ node → message' ≡ message → ended' ≡ ended
    → Took W words now begun talk before node' message' ended'
same_took {W} {words} {now} {begun} {talk} {before} {node} {node'} {message} {message'} {ended} {ended'} took same replied over =
    subst (λ (n : Node). Took W words now begun talk before n message' ended') (sym same)
    (subst (λ (m : Option (List ℕ)). Took W words now begun talk before node m ended') (sym replied)
    (subst (λ (e : Option WalletEnd). Took W words now begun talk before node message e) (sym over) took))

-- ---- without a message

joins_of : (came : List Fragment) (run : Run) (state : NodeState) (joined : Joined) → KeepsState came run state joined → IsLive state → Joins came joined
joins_of came run (states.Engaged start) joined keeps live = keeps.joins
joins_of came run (states.Open session) joined keeps live = keeps.joins
joins_of came run (states.Ended end) joined keeps live = absurd live
joins_of came run states.Spent joined keeps live = absurd live

open_list : (state : NodeState) (ending : lists.Ending) → IsLive state → list_end state ending ≡ None → ending ≡ Open
open_list state Open live is = refl
open_list (states.Engaged start) Peer live is = absurd (cc)
open_list (states.Open session) Peer live is = absurd (cc)
open_list (states.Ended end) Peer live is = absurd live
open_list states.Spent Peer live is = absurd live
open_list (states.Engaged start) (Bad fault) live is = absurd (cc)
open_list (states.Open session) (Bad fault) live is = absurd (cc)
open_list (states.Ended end) (Bad fault) live is = absurd live
open_list states.Spent (Bad fault) live is = absurd live

abbrev pub joined_in : Node → Joined → Node
joined_in node joined = record { setup = node.setup; engagement = node.engagement; state = node.state; joined = joined; released = node.released }

no_places : (node : Node) (state : NodeState) (joined : Joined) → node_with node state joined [] ≡ node_in (joined_in node joined) state
no_places node state joined =
    ap (λ (places : List ReleasedAt). record { setup = node.setup; engagement = node.engagement; state = state; joined = joined; released = places }) (append-nil node.released)

listened_took : (W : Setup) (words : List ℕ) (came : List Fragment) (f : Fragment) (begun talk : List Exchange) (run : Run) (node : Node) (joined : Joined) (ending : lists.Ending) (end : Option WalletEnd)
    → StandsFor W words came begun talk run node → IsLive node.state → BringsNothing came f ending joined → list_end node.state ending ≡ end
    → Took W words (came ++ f ∷ []) begun talk run (node_with node (listened node.state end) joined []) None end
listened_took W words came f begun talk run node joined ending None stands live arrival is =
    is_quiet W words came (came ++ f ∷ []) begun talk run node joined stands live arrival.same (arrival.ends ∙ open_list node.state ending live is) arrival.joins
listened_took W words came f begun talk run node joined ending (Some end) stands live arrival is =
    is_list_end W words came (came ++ f ∷ []) begun talk run node joined end stands arrival.same (ap (list_end node.state) arrival.ends ∙ is)

-- A node to which a fragment brings no message.
pub listened_takes : (node : Node) (f : Fragment) (ending : lists.Ending) (joined : Joined) (reply : Reply) (after : Node) (talk : List Exchange)
    → IsLive node.state → ((came : List Fragment) → Joins came node.joined → BringsNothing came f ending joined) → Listens (joined_in node joined) ending reply after
    → Takes node talk f (Ok reply) talk after
listened_takes node f ending joined reply after talk live brings listens = λ W words came begun run stands.
    same_took
    (listened_took W words came f begun talk run node joined ending (list_end node.state ending) stands live (brings came (joins_of came run node.state node.joined stands.state live)) refl)
    (listens.is_after ∙ sym (no_places node (listened node.state (list_end node.state ending)) joined)) listens.message listens.ended

-- ---- with a message

-- where the session is after the round of a message, by how many came before it
abbrev Continues : WalletOpened → ℕ → AfterRound → Type 0
Continues (Ok first) count (rounds.Open next) = (next ≡ session_at first.0 (count + 2)) × (count + 1 < 1000)
Continues (Err ending) count (rounds.Open next) = ⊥
Continues opened count (rounds.Ended end) = Unit {0}

settled_took : (W : Setup) (words : List ℕ) (came : List Fragment) (f : Fragment) (m : List ℕ) (begun old new : List Exchange) (run : Run) (node : Node) (joined : Joined) (opened : WalletOpened)
    (r : WalletRound) (after : AfterRound)
    → StandsFor W words came begun old run node → BringsMessage came f m joined → end_of_rounds run.session.rounds ≡ None
    → Follows (rounds_with W run.start (whole came).messages m run.session) old new (Some (with_round opened run.session r))
    → HasReply r → r.ended ≡ end_after after → Continues opened (length (whole came).messages) after
    → Took W words (came ++ f ∷ []) begun new run (node_with node (after_state after) joined r.entries) r.reply (end_after after)
settled_took W words came f m begun old new run node joined opened r (rounds.Ended end) stands arrival none follows has ended goes =
    is_round_end W words came (came ++ f ∷ []) m begun old new run node joined opened r end stands arrival.message none follows ended
settled_took W words came f m begun old new run node joined (Ok first) r (rounds.Open next) stands arrival none follows has ended goes =
    same_took
    (is_answered W words came (came ++ f ∷ []) m begun old new run node joined first.0 first.1 r (has ended).0 stands arrival.message none follows ended (has ended).1 goes.1 arrival.goes_on arrival.joins)
    (ap (λ (session : WalletSession). node_with node (states.Open session) joined r.entries) goes.0) refl refl
settled_took W words came f m begun old new run node joined (Err ending) r (rounds.Open next) stands arrival none follows has ended goes = absurd goes

-- the first message
continues_first : (opened : WalletOpened) (messages : List (List ℕ)) (after : AfterRound) → messages ≡ [] → GoesOnFrom opened after → Continues opened (length messages) after
continues_first (Ok first) messages (rounds.Open next) none goes =
    let count : length messages ≡ 0 = ap length none in
    (goes ∙ ap (session_at first.0) (omega (arith, count)), omega (arith, count))
continues_first (Err ending) messages (rounds.Open next) none goes = absurd goes
continues_first (Ok first) messages (rounds.Ended end) none goes = tt
continues_first (Err ending) messages (rounds.Ended end) none goes = tt

first_took : (W : Setup) (words : List ℕ) (came : List Fragment) (f : Fragment) (m : List ℕ) (begun old new : List Exchange) (run : Run) (node : Node) (joined : Joined) (start : WalletStart) (r : Round)
    → StandsFor W words came begun old run node → AwaitsFirst came run start node.joined → BringsMessage came f m joined → First W start m old new r
    → Took W words (came ++ f ∷ []) begun new run (node_with node (after_state r.after) joined r.places.items) r.reply (end_after r.after)
first_took W words came f m begun old new run node joined start r stands awaits arrival is =
    settled_took W words came f m begun old new run node joined is.opened (round_seen r) r.after stands arrival
    (ap (λ (list : WalletRounds). end_of_rounds list.rounds) awaits.no_round)
    (subst (λ (s : WalletStart). Follows (rounds_with W s (whole came).messages m run.session) old new (Some (with_round is.opened run.session (round_seen r)))) awaits.is_start
    (first_followed W start (whole came).messages m run.session is.opened (round_seen r) awaits.no_message awaits.no_round is.follows))
    (first_reply W start m is.opened (round_seen r) is.follows) refl
    (continues_first is.opened (whole came).messages r.after awaits.no_message is.goes_on)

-- a later one
continues_next : (first session : WalletSession) (text : List ℕ) (count : ℕ) (after : AfterRound) → session ≡ session_at first (count + 1) → GoesOn session after → Continues (Ok (first, text)) count after
continues_next first session text count (rounds.Open next) at goes =
    let is : next ≡ session_at first (count + 2) = goes.0 ∙ ap next_place at ∙ ap (session_at first) (omega arith) in
    let place : next.place ≡ count + 2 = ap (λ (s : WalletSession). s.place) is in
    (is, omega (arith, place, goes.1))
continues_next first session text count (rounds.Ended end) at goes = tt

next_took : (W : Setup) (words : List ℕ) (came : List Fragment) (f : Fragment) (m : List ℕ) (begun old new : List Exchange) (run : Run) (node : Node) (joined : Joined) (session : WalletSession) (r : Round)
    → StandsFor W words came begun old run node → AwaitsNext came run session node.joined → BringsMessage came f m joined
    → Follows (next_plan W session m) old new (Some (round_seen r)) → GoesOn session r.after
    → Took W words (came ++ f ∷ []) begun new run (node_with node (after_state r.after) joined r.places.items) r.reply (end_after r.after)
next_took W words came f m begun old new run node joined session r stands awaits arrival follows goes =
    settled_took W words came f m begun old new run node joined (Ok (awaits.first, awaits.text)) (round_seen r) r.after stands arrival awaits.no_end
    (next_followed W run.start (whole came).messages m run.session awaits.first session awaits.text (round_seen r) awaits.has_message awaits.agreed awaits.no_end awaits.is_session follows)
    (next_reply W session m (round_seen r) follows) refl
    (continues_next awaits.first session awaits.text (length (whole came).messages) r.after awaits.is_session goes)

round_took : (W : Setup) (words : List ℕ) (came : List Fragment) (f : Fragment) (m : List ℕ) (begun old new : List Exchange) (run : Run) (node : Node) (joined : Joined) (state : NodeState) (r : Round)
    → StandsFor W words came begun old run node → KeepsState came run state node.joined → BringsMessage came f m joined → IsRoundOf W state m old new r
    → Took W words (came ++ f ∷ []) begun new run (node_with node (after_state r.after) joined r.places.items) r.reply (end_after r.after)
round_took W words came f m begun old new run node joined (states.Engaged start) r stands keeps arrival is =
    first_took W words came f m begun old new run node joined start r stands keeps arrival is
round_took W words came f m begun old new run node joined (states.Open session) r stands keeps arrival is =
    next_took W words came f m begun old new run node joined session r stands keeps arrival is.0 is.1
round_took W words came f m begun old new run node joined (states.Ended end) r stands keeps arrival is = absurd is
round_took W words came f m begun old new run node joined states.Spent r stands keeps arrival is = absurd is

-- A node to which a fragment brings a message.
pub answers_take : (node : Node) (f : Fragment) (m : List ℕ) (old new : List Exchange) (joined : Joined) (result : Result Reply Memory) (after : Node)
    → IsLive node.state → ((came : List Fragment) → Joins came node.joined → BringsMessage came f m joined) → Answers node m old new joined result after
    → Takes node old f result new after
answers_take node f m old new joined (Ok reply) after live brings answers = λ W words came begun run stands.
    same_took
    (round_took W words came f m begun old new run node joined node.state answers.r stands stands.state (brings came (joins_of came run node.state node.joined stands.state live))
    (subst (λ (setup : Setup). IsRoundOf setup node.state m old new answers.r) stands.setup answers.is_round))
    answers.settles.keeps answers.settles.message answers.settles.ended
answers_take node f m old new joined (Err wanting) after live brings answers = answers
