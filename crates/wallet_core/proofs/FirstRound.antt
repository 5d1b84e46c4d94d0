-- How the exits of the first round follow the definition.
use Rattle.std.proofs.Common.{◌≡◌, ◌+◌, ℕ, List, Some, None, Ok, Err, sym, ap, subst, ◌∙◌}
use Rattle.key_device.proofs.PlanLemmas.{cut_short, ended, then_more}
use Rattle.key_device.specs.Plan.{Done, Follows, Plan, bind}
use Rattle.key_device.specs.PlanSteps.{mapped}
use Rattle.key_device.specs.declared.exchange.Exchange.{Exchange}
use Rattle.session_seal.specs.Ending.{Ending}
use Rattle.session_seal.specs.Wallet.{WalletOpened, WalletSession, WalletStart, wallet_establishes}
use Rattle.session_seal.specs.declared.wallet_end.WalletEnd.{WalletEnd}
use Rattle.wallet_model.specs.Answer.{answer}
use Rattle.wallet_model.specs.Round.{WalletRound, answered_round, ended_round, round_of, session_at}
use Rattle.wallet_model.specs.Setup.{Setup}
use Rattle.wallet_core.specs.RoundView.{GoesOn, end_after, round_seen}
use Rattle.wallet_core.specs.declared.after_round.AfterRound.{AfterRound}
use Rattle.wallet_core.specs.declared.after_round.AfterRound.TheVariants.{Open, Ended}
use Rattle.wallet_core.specs.declared.round.Round.{Round}
use Rattle.wallet_core.proofs.Opened.{agreed, first_place}
use Rattle.wallet_core.proofs.Talks.{longer}
use Rattle.wallet_core.specs.Rounds.{First, GoesOnFrom, first_plan}

-- after the first message a session is at the second place
goes_on_from : (asked : WalletSession) (text : List ℕ) (after : AfterRound) → asked.place ≡ 1 → GoesOn asked after → GoesOnFrom (Ok (asked, text)) after
goes_on_from asked text (Open next) first goes =
    goes.0 ∙ ap (λ (place : ℕ). session_at asked (place + 1)) first
goes_on_from asked text (Ended end) first goes = tt

has_ended : (ending : Ending WalletEnd) (after : AfterRound) → end_after after ≡ Some ending.check → GoesOnFrom (Err ending) after
has_ended ending (Open next) is = cc
has_ended ending (Ended end) is = tt

module _ (W : Setup) (start : WalletStart) (message : List ℕ) where
  -- how the plan goes on after what the message is opened to
  abbrev with_round : WalletOpened → Plan (WalletOpened × WalletRound)
  with_round opened = bind (round_of W opened) (λ round. Done (opened, round))

  -- the text was answered, which was read as a slice,
  pub first_answered : {old mid new : List Exchange} (asked : WalletSession) (text slice : List ℕ) (r : Round) → slice ≡ text
      → Follows (wallet_establishes start message) old mid (Some (Ok (asked, text)))
      → Follows (mapped (answered_round asked) (answer W asked slice)) mid new (Some (round_seen r))
      → GoesOn asked r.after → First W start message old new r
  first_answered {old} {mid} {new} asked text slice r is first second goes = record {
    opened = Ok (asked, text);
    follows = then_more with_round first (then_more (λ round. Done (Ok (asked, text), round))
        (subst (λ (bytes : List ℕ). Follows (mapped (answered_round asked) (answer W asked bytes)) mid new (Some (round_seen r))) is second) (ended new));
    goes_on = goes_on_from asked text r.after (first_place start message (asked, text) first) goes;
  }

  -- memory was wanting to answer it,
  pub first_spent : {old mid new : List Exchange} (asked : WalletSession) (text slice : List ℕ) → slice ≡ text
      → Follows (wallet_establishes start message) old mid (Some (Ok (asked, text)))
      → Follows (mapped (answered_round asked) (answer W asked slice)) mid new None
      → Follows (first_plan W start message) old new None × ¬ (new ≡ old)
  first_spent {old} {mid} {new} asked text slice is first second = (
    then_more with_round first (cut_short (λ round. Done (Ok (asked, text), round))
        (subst (λ (bytes : List ℕ). Follows (mapped (answered_round asked) (answer W asked bytes)) mid new None) is second)),
    longer (wallet_establishes start message) (mapped (answered_round asked) (answer W asked slice)) first second (agreed start message first.gained (asked, text) first.fits),
  )

  -- or the message wasn't opened.
  pub first_ended : {old new : List Exchange} (ending : Ending WalletEnd) (r : Round)
      → Follows (wallet_establishes start message) old new (Some (Err ending)) → round_seen r ≡ ended_round ending
      → First W start message old new r
  first_ended {old} {new} ending r first is = record {
    opened = Err ending;
    follows = subst (λ (round : WalletRound). Follows (first_plan W start message) old new (Some (Err ending, round))) (sym is)
        (then_more with_round first (ended new));
    goes_on = has_ended ending r.after (ap (λ (round : WalletRound). round.ended) is);
  }
