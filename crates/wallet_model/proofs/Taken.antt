-- What a node stands for after one fragment more.
use Rattle.std.proofs.Common.{◌≡◌, ◌<◌, ◌+◌, ℕ, List, [], ◌∷◌, ◌++◌, length, Option, Some, None, Ok, refl, sym, ◌∙◌, ap, subst, append-nil, arith}
use Rattle.std.specs.List.{filter_map}
use Rattle.std.proofs.lemmas.Grind.{flat_map-append}
use Rattle.std.proofs.lemmas.List.{length-append}
use Rattle.std.proofs.lemmas.List.Elements.{filter_map-append}
use Rattle.ble_fragments.specs.Joins.{Joined, Joins}
use Rattle.ble_fragments.specs.Whole.{whole}
use Rattle.ble_fragments.specs.declared.ending.Ending as lists
use Rattle.ble_fragments.specs.declared.ending.Ending.TheVariants.{Open, Peer, Bad}
use Rattle.mdoc_outside.specs.declared.fragment.Fragment.{Fragment}
use Rattle.round_model.specs.Rounds.{end_of_rounds, replies_of, unless_ended}
use Rattle.session_seal.specs.Wallet.{WalletOpened}
use Rattle.session_seal.specs.declared.wallet_end.WalletEnd.{WalletEnd}
use Rattle.session_seal.specs.declared.wallet_end.WalletEnd.TheVariants.{PeerEnded}
use Rattle.wallet_model.specs.Round.{WalletRound, session_at}
use Rattle.wallet_model.specs.Stands as states
use Rattle.wallet_model.specs.Stands.{AwaitsFirst, AwaitsNext, KeepsState, Node, NodeState, StandsFor}
use Rattle.wallet_model.specs.Wallet.{Run, WalletRounds, end_of, end_by_list, or_by_list, peer_end, released_in, replies}
use Rattle.wallet_model.specs.declared.released_at.ReleasedAt.{ReleasedAt}
use Rattle.wallet_model.specs.Taking.{IsAfterEnd, IsAnswered, IsListEnd, IsLive, IsQuiet, IsRoundEnd, in_list, list_end, with_round}
use Rattle.wallet_model.proofs.AfterEnd.{stays_ended}
use Rattle.wallet_model.proofs.RunLemmas.{followed_more, followed_same}

-- ---- without a message

end_with : (run : Run) (ending : lists.Ending) → end_of_rounds run.session.rounds ≡ None → end_of run ending ≡ end_by_list (replies run) ending
end_with run ending none = ap (λ (o : Option WalletEnd). or_by_list o (replies run) ending) none

-- no round has ended a session that goes on
rounds_end : (came : List Fragment) (run : Run) (state : NodeState) (joined : Joined) → KeepsState came run state joined → IsLive state → end_of_rounds run.session.rounds ≡ None
rounds_end came run (states.Engaged start) joined keeps live = ap (λ (list : WalletRounds). end_of_rounds list.rounds) keeps.no_round
rounds_end came run (states.Open session) joined keeps live = keeps.no_end
rounds_end came run (states.Ended end) joined keeps live = absurd live
rounds_end came run states.Spent joined keeps live = absurd live

keeps_quiet : (came now : List Fragment) (run : Run) (state : NodeState) (old joined : Joined) → KeepsState came run state old → IsLive state
    → (whole now).messages ≡ (whole came).messages → (whole now).ending ≡ Open → Joins now joined → KeepsState now run state joined
keeps_quiet came now run (states.Engaged start) old joined keeps live same is_open joins = record {
  no_message = same ∙ keeps.no_message;
  no_round = keeps.no_round;
  is_start = keeps.is_start;
  joins = joins;
  goes_on = is_open;
}
keeps_quiet came now run (states.Open session) old joined keeps live same is_open joins = record {
  first = keeps.first;
  text = keeps.text;
  agreed = keeps.agreed;
  is_session = keeps.is_session ∙ ap (λ (list : List (List ℕ)). session_at keeps.first (length list + 1)) (sym same);
  has_message = subst (λ (list : List (List ℕ)). 0 < length list) (sym same) keeps.has_message;
  is_within = subst (λ (list : List (List ℕ)). length list < 1000) (sym same) keeps.is_within;
  no_end = keeps.no_end;
  answered = keeps.answered;
  joins = joins;
  goes_on = is_open;
}
keeps_quiet came now run (states.Ended end) old joined keeps live same is_open joins = absurd live
keeps_quiet came now run states.Spent old joined keeps live same is_open joins = absurd live

pub is_quiet : IsQuiet
is_quiet W words came now begun talk run node joined stands live same is_open joins = record {
  run = run;
  stands = record {
    setup = stands.setup;
    follows = followed_same W came now begun talk words run same stands.follows;
    engagement = stands.engagement;
    released = append-nil node.released ∙ stands.released;
    state = keeps_quiet came now run node.state node.joined joined stands.state live same is_open joins;
  };
  replied = sym (append-nil (replies run));
  is_ended = sym (end_with run (whole now).ending (rounds_end came run node.state node.joined stands.state live) ∙ ap (end_by_list (replies run)) is_open);
}

-- ---- the end of the list

list_ends : (came now : List Fragment) (run : Run) (state : NodeState) (joined : Joined) (ending : lists.Ending) (end : WalletEnd)
    → KeepsState came run state joined → list_end state ending ≡ Some end → end_of run ending ≡ Some end
list_ends came now run (states.Engaged start) joined Open end keeps ends = cc
list_ends came now run (states.Engaged start) joined Peer end keeps ends =
    ap (λ (list : WalletRounds). or_by_list (end_of_rounds list.rounds) (replies_of list.rounds) Peer) keeps.no_round ∙ ends
list_ends came now run (states.Engaged start) joined (Bad fault) end keeps ends =
    ap (λ (list : WalletRounds). or_by_list (end_of_rounds list.rounds) (replies_of list.rounds) (Bad fault)) keeps.no_round ∙ ends
list_ends came now run (states.Open session) joined Open end keeps ends = cc
list_ends came now run (states.Open session) joined Peer end keeps ends =
    end_with run Peer keeps.no_end ∙ ap Some keeps.answered ∙ ends
list_ends came now run (states.Open session) joined (Bad fault) end keeps ends = end_with run (Bad fault) keeps.no_end ∙ ends
list_ends came now run (states.Ended other) joined ending end keeps ends = cc
list_ends came now run states.Spent joined ending end keeps ends = cc

pub is_list_end : IsListEnd
is_list_end W words came now begun talk run node joined end stands same ends =
    let is : end_of run (whole now).ending ≡ Some end = list_ends came now run node.state node.joined (whole now).ending end stands.state ends in
    record {
      run = run;
      stands = record {
        setup = stands.setup;
        follows = followed_same W came now begun talk words run same stands.follows;
        engagement = stands.engagement;
        released = append-nil node.released ∙ stands.released;
        state = is;
      };
      replied = sym (append-nil (replies run));
      is_ended = sym is;
    }

-- ---- with a message

abbrev run_more : Run → WalletOpened → WalletRound → Run
run_more run opened r = record { start = run.start; session = with_round opened run.session r }

one_reply : (r : WalletRound) (reply : Option (List ℕ)) → r.reply ≡ reply → replies_of (r ∷ []) ≡ in_list reply
one_reply r None is = ap (λ (o : Option (List ℕ)). filter_map (λ (found : Option (List ℕ)). found) (o ∷ [])) is
one_reply r (Some reply) is = ap (λ (o : Option (List ℕ)). filter_map (λ (found : Option (List ℕ)). found) (o ∷ [])) is

more_replies : (run : Run) (opened : WalletOpened) (r : WalletRound) → replies (run_more run opened r) ≡ replies run ++ in_list r.reply
more_replies run opened r =
    filter_map-append (λ (round : WalletRound). round.reply) run.session.rounds (r ∷ []) ∙ ap (λ (list : List (List ℕ)). replies run ++ list) (one_reply r r.reply refl)

more_entries : (run : Run) (opened : WalletOpened) (r : WalletRound) → released_in (run_more run opened r) ≡ released_in run ++ r.entries
more_entries run opened r =
    flat_map-append (λ (round : WalletRound). round.entries) run.session.rounds (r ∷ []) ∙ ap (λ (list : List ReleasedAt). released_in run ++ list) (append-nil r.entries)

last_end : (list : List WalletRound) (r : WalletRound) → end_of_rounds list ≡ None → end_of_rounds (list ++ r ∷ []) ≡ r.ended
last_end [] r none = one r.ended
  where
    one : (ended : Option WalletEnd) → unless_ended ended None ended ≡ ended
    one None = refl
    one (Some end) = refl
last_end (round ∷ list) r none = by round.ended none (last_end list r)
  where
    by : (ended : Option WalletEnd) → unless_ended ended (end_of_rounds list) ended ≡ None → (end_of_rounds list ≡ None → end_of_rounds (list ++ r ∷ []) ≡ r.ended)
        → unless_ended ended (end_of_rounds (list ++ r ∷ [])) ended ≡ r.ended
    by None is later = later is
    by (Some end) is later = cc

pub is_round_end : IsRoundEnd
is_round_end W words came now m begun old new run node joined opened r end stands one none follows ends =
    let is : end_of (run_more run opened r) (whole now).ending ≡ Some end =
    ap (λ (o : Option WalletEnd). or_by_list o (replies (run_more run opened r)) (whole now).ending) (last_end run.session.rounds r none ∙ ends) in
    record {
      run = run_more run opened r;
      stands = record {
        setup = stands.setup;
        follows = followed_more W came now m begun old new words run (with_round opened run.session r) one stands.follows follows;
        engagement = stands.engagement;
        released = ap (λ (places : List ReleasedAt). places ++ r.entries) stands.released ∙ sym (more_entries run opened r);
        state = is;
      };
      replied = more_replies run opened r;
      is_ended = sym is;
    }

-- after a reply the wallet's end is the peer's
peer_after : (list : List (List ℕ)) (reply : List ℕ) → peer_end (list ++ reply ∷ []) ≡ PeerEnded
peer_after [] reply = refl
peer_after (first ∷ list) reply = refl

pub is_answered : IsAnswered
is_answered W words came now m begun old new run node joined first text r reply stands one none follows goes replied within is_open joins =
    let run' : Run = run_more run (Ok (first, text)) r in
    let count : length (whole now).messages ≡ length (whole came).messages + 1 = ap length one ∙ length-append (whole came).messages (m ∷ []) in
    let no_end : end_of_rounds run'.session.rounds ≡ None = last_end run.session.rounds r none ∙ goes in
    record {
      run = run';
      stands = record {
        setup = stands.setup;
        follows = followed_more W came now m begun old new words run (with_round (Ok (first, text)) run.session r) one stands.follows follows;
        engagement = stands.engagement;
        released = ap (λ (places : List ReleasedAt). places ++ r.entries) stands.released ∙ sym (more_entries run (Ok (first, text)) r);
        state = record {
          first = first;
          text = text;
          agreed = refl;
          is_session = ap (session_at first) (omega (arith, count));
          has_message = omega (arith, count);
          is_within = omega (arith, count);
          no_end = no_end;
          answered = ap peer_end (more_replies run (Ok (first, text)) r ∙ ap (λ (o : Option (List ℕ)). replies run ++ in_list o) replied) ∙ peer_after (replies run) reply;
          joins = joins;
          goes_on = is_open;
        };
      };
      replied = more_replies run (Ok (first, text)) r;
      is_ended = sym (end_with run' (whole now).ending no_end ∙ ap (end_by_list (replies run')) is_open);
    }

-- ---- after the end

is_ended_state : (came : List Fragment) (run : Run) (node : Node) (end : WalletEnd) → KeepsState came run node.state node.joined → node.state ≡ states.Ended end
    → end_of run (whole came).ending ≡ Some end
is_ended_state came run node end keeps is = subst (λ (state : NodeState). KeepsState came run state node.joined) is keeps

pub is_after_end : IsAfterEnd
is_after_end W words came f begun talk run node end stands is =
    let stays = stays_ended W came f begun talk words run end stands.follows (is_ended_state came run node end stands.state is) in
    record {
      run = run;
      stands = record {
        setup = stands.setup;
        follows = stays.follows;
        engagement = stands.engagement;
        released = stands.released;
        state = subst (λ (state : NodeState). KeepsState (came ++ f ∷ []) run state node.joined) (sym is) stays.ends;
      };
      replied = sym (append-nil (replies run));
      is_ended = sym stays.ends;
    }
