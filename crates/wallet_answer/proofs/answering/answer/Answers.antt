use Rattle.key_device.specs.Recording.{talk}
use Rattle.wallet_answer.specs.SetupView.{setup_of}
use Rattle.wallet_answer.proofs.Exits.{answered_not_cbor}
use Rattle.wallet_answer.proofs.answering.answer.Goals as goal

pub returns-in-Err-clause-asked : goal.returns-in-Err-clause-asked
returns-in-Err-clause-asked g c =
    answered_not_cbor (setup_of c.args.setup.now) c.args.session.now c.args.text.now c.in-Err.field-0 (talk c.args.device.now) c.without_items.result
    c.in-Err.ensures.whole c.without_items.ensures
