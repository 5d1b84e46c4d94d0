use Rattle.cbor_view.proofs.Steps.{text-good, text-bad}
use Rattle.cbor_view.proofs.walk.skip_text.Goals as goal

pub returns-in-Ok : goal.returns-in-Ok
returns-in-Ok c = text-good c.args.left c.args.len c.args.rest.now _ c.in_ok-text.ensures c.in-Ok.ensures.cases.1

pub returns-in-Err : goal.returns-in-Err
returns-in-Err c = text-bad c.args.left c.args.len c.args.rest.now _ c.in_ok-text.ensures c.in-Err.ensures.cases.0
