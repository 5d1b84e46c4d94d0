-- What a node makes of a message or of a further fragment, at each exit.
use Rattle.std.proofs.Common.{◌≡◌, inl, inr, ◌<◌, ◌≤◌, ℕ, List, [], Option, Some, None, Result, Ok, Err, refl, sym, ◌∙◌, ap, subst, arith}
use Rattle.std.specs.Prelude.{IfOk, OnErr}
use Rattle.ble_fragments.specs.Joins.{Joined}
use Rattle.key_device.specs.declared.exchange.Exchange.{Exchange}
use Rattle.mdoc_outside.specs.declared.fragment.Fragment.{Fragment}
use Rattle.mdoc_outside.specs.declared.memory.Memory.{Memory}
use Rattle.session_seal.specs.Wallet.{WalletSession, WalletStart}
use Rattle.session_seal.specs.declared.wallet_end.WalletEnd.{WalletEnd}
use Rattle.wallet_model.specs.Setup.{Setup}
use Rattle.wallet_model.specs.Stands as states
use Rattle.wallet_model.specs.Stands.{Node, NodeState, StandsFor}
use Rattle.wallet_core.specs.declared.round.Round.{Round}
use Rattle.wallet_core.specs.Rounds.{IsFirstRound, IsNextRound}
use Rattle.wallet_core.specs.declared.want_of_memory.WantOfMemory.{WantOfMemory}
use Rattle.wallet_core.specs.declared.want_of_memory.WantOfMemory.TheVariants.{Back, Spent}
use Rattle.wallet_model.proofs.Taken.{is_after_end}
use Rattle.wallet_model.specs.Taking.{IsLive}
use Rattle.wallet_core.proofs.Takes.{joined_in}
use Rattle.wallet_core.proofs.Unasked.{released_asked}
use Rattle.wallet_core.specs.Answering.{Answers, IsLost, IsPlaced, IsRoundOf, Settles, first_left, next_left}
use Rattle.wallet_core.specs.NodeView.{node_in}
use Rattle.wallet_core.specs.StateView.{over_end}
use Rattle.wallet_core.specs.Taking.{RestsAfterEnd, Takes}
use Rattle.wallet_core.specs.declared.reply.Reply.{Reply}

-- ---- where a session is after a round

pub placed : (W : Setup) (session : WalletSession) (m : List ℕ) (old new : List Exchange) (wanting : WantOfMemory WalletSession)
    → 1 < session.place → session.place ≤ 1000 → IsNextRound W session m old new (Err wanting) → IsPlaced wanting
placed W session m old new (Back same) later within is =
    let place : same.place ≡ session.place = ap (λ (s : WalletSession). s.place) is.0 in
    (omega (arith, place, later), omega (arith, place, within))
placed W session m old new Spent later within is = tt

-- ---- a message that was answered, or wasn't for want of memory

in_state : (node : Node) (state : NodeState) (joined : Joined) (r : Round) (reply : Reply) (after : Node)
    → Settles node joined r reply after → Settles (node_in node state) joined r reply after
in_state node state joined r reply after settles = record { keeps = settles.keeps; message = settles.message; ended = settles.ended }

pub settled : (node : Node) (state : NodeState) (m : List ℕ) (old new : List Exchange) (joined : Joined) (r : Round) (result : Result Reply Memory) (after : Node)
    → node.state ≡ states.Spent → IsRoundOf node.setup state m old new r
    → IfOk result (λ reply. Settles node joined r reply after) → OnErr result ((after.state ≡ node.state) × (r.places.items ≡ [] → ⊥))
    → Answers (node_in node state) m old new joined result after
settled node state m old new joined r (Ok reply) after spent is settles lost = record { r = r; is_round = is; settles = in_state node state joined r reply after settles }
settled node state m old new joined r (Err wanting) after spent is settles lost = inr (released_asked node.setup state m old new r is lost.1, lost.0 ∙ spent)

pub first_lost : (node : Node) (start : WalletStart) (m : List ℕ) (old new : List Exchange) (wanting : WantOfMemory WalletStart) (after : Node)
    → IsFirstRound node.setup start m old new (Err wanting) → after ≡ node_in node (first_left wanting)
    → IsLost (node_in node (states.Engaged start)) old new after
first_lost node start m old new (Back same) after is left = inl (is.1, left ∙ ap (λ (s : WalletStart). node_in node (states.Engaged s)) is.0)
first_lost node start m old new Spent after is left = inr (is.1, ap (λ (n : Node). n.state) left)

pub next_lost : (node : Node) (session : WalletSession) (m : List ℕ) (old new : List Exchange) (wanting : WantOfMemory WalletSession) (after : Node)
    → IsNextRound node.setup session m old new (Err wanting) → after ≡ node_in node (next_left wanting)
    → IsLost (node_in node (states.Open session)) old new after
next_lost node session m old new (Back same) after is left = inl (is.1, left ∙ ap (λ (s : WalletSession). node_in node (states.Open s)) is.0)
next_lost node session m old new Spent after is left = inr (is.1, ap (λ (n : Node). n.state) left)

-- nothing was asked, and nothing changed
pub unchanged : (node : Node) (talk : List Exchange) → IsLost node talk talk node
unchanged node talk = inl (refl, refl)

-- a fragment that wasn't joined for want of memory
pub unheard : (node : Node) (talk : List Exchange) (joined : Joined) → joined ≡ node.joined → IsLost node talk talk (joined_in node joined)
unheard node talk joined same = inl (refl, ap (joined_in node) same)

-- ---- a session that doesn't go on

over_takes : (node : Node) (f : Fragment) (talk : List Exchange) (state : NodeState) (end : WalletEnd) → node.state ≡ state → over_end state ≡ Some end
    → Takes node talk f (Ok (record { message = None; ended = Some end })) talk node
over_takes node f talk (states.Engaged start) end is over = absurd (cc)
over_takes node f talk (states.Open session) end is over = absurd (cc)
over_takes node f talk (states.Ended last) end is over = λ W words came begun run stands.
    is_after_end W words came f begun talk run node end stands (is ∙ ap (λ (found : Option WalletEnd). over_state found last) over)
  where
    over_state : Option WalletEnd → WalletEnd → NodeState
    over_state (Some found) last = states.Ended found
    over_state None last = states.Ended last
over_takes node f talk states.Spent end is over = λ W words came begun run stands.
    absurd (subst (λ (state : NodeState). states.KeepsState came run state node.joined) is stands.state)

pub after_end : (node : Node) (f : Fragment) (talk : List Exchange) (end : WalletEnd) → over_end node.state ≡ Some end
    → Takes node talk f (Ok (record { message = None; ended = Some end })) talk node
after_end node f talk end over = over_takes node f talk node.state end refl over

pub rests : (node : Node) (talk : List Exchange) (end : WalletEnd) → over_end node.state ≡ Some end
    → RestsAfterEnd node talk (Ok (record { message = None; ended = Some end })) talk node
rests node talk end over = λ other is. record {
  answer = ap (λ (found : Option WalletEnd). Ok (record { message = None; ended = found })) (sym over ∙ is);
  same = refl;
  unasked = refl;
}

pub live : (state : NodeState) → over_end state ≡ None → IsLive state
live (states.Engaged start) over = tt
live (states.Open session) over = tt
live (states.Ended end) over = absurd (cc)
live states.Spent over = absurd (cc)

-- a session that goes on isn't at its end
pub goes_on : (node : Node) (old : List Exchange) (result : Result Reply Memory) (new : List Exchange) (after : Node) → over_end node.state ≡ None
    → RestsAfterEnd node old result new after
goes_on node old result new after over = λ end is. absurd (cc)
