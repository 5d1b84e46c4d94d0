use Rattle.std.proofs.Common.{refl}
use Rattle.std.proofs.lemmas.Result.{err_from_is_err_and}
use Rattle.key_device.proofs.PlanLemmas.{unasked}
use Rattle.wallet_answer.specs.SetupView.{setup_of}
use Rattle.plain_wallet.proofs.RunLemmas.{session_cut, session_ran}
use Rattle.plain_wallet.proofs.wallet.run_from.Goals as goal

pub returns-in_err-list-clause-run : goal.returns-in_err-list-clause-run
returns-in_err-list-clause-run g c =
    let p = err_from_is_err_and c.from_residual.result c.from_residual.ensures.1 in rw p.1 (unasked refl)

pub returns-in_err-rounds-clause-run : goal.returns-in_err-rounds-clause-run
returns-in_err-rounds-clause-run g c =
    let p = err_from_is_err_and c.from_residual-in_err-rounds.result c.from_residual-in_err-rounds.ensures.1 in
    rw p.1 (session_cut (setup_of c.args.setup.now) c.args.started.state c.args.fragments.now c.in_ok-list.list.messages.items c.in_ok-list.ensures.messages (rw c.deref.ensures.value at c.in_err-rounds.ensures.rounds))

pub returns-clause-run : goal.returns-clause-run
returns-clause-run g c =
    session_ran (setup_of c.args.setup.now) c.args.started c.args.fragments.now c.in_ok-list.list.messages.items c.in_ok-list.list.ending c.in_ok-rounds.rounds.items c.run_of.result
    c.in_ok-list.ensures.messages c.in_ok-list.ensures.ending (rw c.deref.ensures.value at c.in_ok-rounds.ensures.rounds) c.run_of.ensures
