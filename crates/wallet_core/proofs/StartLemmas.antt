-- What a node stands for when it was started.
use Rattle.std.proofs.Common.{◌≡◌, ℕ, List, [], None, Ok, refl, sym, ◌∙◌, subst}
use Rattle.ble_fragments.specs.Whole.{whole}
use Rattle.ble_fragments.specs.declared.ending.Ending.TheVariants.{Open}
use Rattle.key_device.proofs.AllPlanLemmas.{all_ended, all_more}
use Rattle.key_device.specs.Plan.{Finished, FollowsAll}
use Rattle.key_device.specs.PlanSteps.{unless_fault}
use Rattle.key_device.specs.declared.exchange.Exchange.{Exchange}
use Rattle.session_seal.specs.Wallet.{WalletStart}
use Rattle.wallet_model.specs.Setup.{Setup}
use Rattle.wallet_model.specs.Stands.{KeepsState, Node, NodeState}
use Rattle.wallet_model.specs.Wallet.{Run, run_from, started, wallet}
use Rattle.wallet_core.specs.Ends.{start_end}
use Rattle.wallet_core.specs.declared.started.Started.{Started}
use Rattle.wallet_core.specs.NodeStarting.{IsNew, IsStarted}

abbrev no_rounds : WalletStart → Run
no_rounds start = record { start = start; session = record { agreed = None; rounds = [] } }

no_message : (whole []).messages ≡ []
unfolding whole
no_message = refl

goes_on : (whole []).ending ≡ Open
unfolding whole
goes_on = refl

nothing_more : (W : Setup) (start : WalletStart) (talk : List Exchange) (words : List ℕ)
    → FollowsAll (run_from W [] start) talk [] words talk [] words (Finished (Ok (no_rounds start)))
unfolding whole
nothing_more W start talk words = all_ended talk [] words

-- the words that were drawn, by themselves
drawn : {old new : List Exchange} {dealt dealt' : List ℕ} (start : WalletStart)
    → (follows : FollowsAll started old [] dealt new [] dealt' (Finished (Ok start))) → FollowsAll started old [] [] new [] follows.words (Finished (Ok start))
drawn start follows = record {
  gained = follows.gained;
  joined = follows.joined;
  gained_other = follows.gained_other;
  joined_other = follows.joined_other;
  words = follows.words;
  joined_words = refl;
  fits = follows.fits;
}

-- the plan of the wallet over no fragments
followed : (W : Setup) {old new : List Exchange} {dealt dealt' : List ℕ} (start : WalletStart)
    → (follows : FollowsAll started old [] dealt new [] dealt' (Finished (Ok start)))
    → FollowsAll (wallet W []) old [] [] new [] follows.words (Finished (Ok (no_rounds start)))
unfolding wallet
followed W {new = new} start follows = all_more (unless_fault (run_from W [])) (drawn start follows) (nothing_more W start new follows.words)

awaits_first : (start : WalletStart) (node : Node) (W : Setup) (s : Started) → s.state ≡ start → IsNew W s node
    → KeepsState [] (no_rounds start) node.state node.joined
awaits_first start node W s same is =
    subst (λ (state : NodeState). KeepsState [] (no_rounds start) state node.joined) (sym is.state)
    (record { no_message = no_message; no_round = refl; is_start = same; joins = is.joins; goes_on = goes_on })

-- A node of a session that was started stands for no fragments.
pub begins : (W : Setup) {old new : List Exchange} {dealt dealt' : List ℕ} (s : Started) (node : Node)
    → FollowsAll started old [] dealt new [] dealt' (start_end (Ok s)) → s.engagement ≡ s.state.engagement → IsNew W s node
    → IsStarted W old new dealt dealt' node
begins W s node follows announces is = record {
  words = follows.words;
  gained = follows.joined_words;
  run = no_rounds s.state;
  stands = record {
    setup = is.setup;
    follows = followed W s.state follows;
    engagement = is.engagement ∙ announces;
    released = is.released;
    state = awaits_first s.state node W s refl is;
  };
}
