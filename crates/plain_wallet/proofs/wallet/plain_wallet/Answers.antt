use Rattle.wallet_answer.specs.SetupView.{setup_of}
use Rattle.plain_wallet.proofs.RunLemmas.{not_started, ran, ran_short}
use Rattle.plain_wallet.proofs.wallet.plain_wallet.Goals as goal

pub returns-in-Ok-run_from-clause-asked : goal.returns-in-Ok-run_from-clause-asked
returns-in-Ok-run_from-clause-asked g c =
    ran (setup_of c.args.setup.now) c.args.fragments.now c.in-Ok.started c.in-Ok-run_from.run' c.in-Ok.ensures.asked c.in-Ok.ensures.engagement c.in-Ok-run_from.ensures.run

pub returns-in-Err-run_from-clause-asked : goal.returns-in-Err-run_from-clause-asked
returns-in-Err-run_from-clause-asked g c =
    ran_short (setup_of c.args.setup.now) c.args.fragments.now c.in-Ok.started c.in-Err-run_from.field-0 c.in-Ok.ensures.asked c.in-Err-run_from.ensures.run

pub returns-in-Err-clause-asked : goal.returns-in-Err-clause-asked
returns-in-Err-clause-asked g c =
    not_started (setup_of c.args.setup.now) c.args.fragments.now c.in-Err.fault c.in-Err.ensures.asked
