use Rattle.cbor_view.proofs.Stepping.{text_again}
use Rattle.cbor_view.proofs.Steps.{past-item, past-fault}
use Rattle.cbor_view.proofs.walk.skip_again.Goals as goal

pub returns-in-Ok-Text-default : goal.returns-in-Ok-Text-default
returns-in-Ok-Text-default c =
    let head = rw c.in-Ok-Text-default.field-0-0-is at c.in-Ok-Text-default.ensures in
    rw (text_again c.args.bytes.now c.in-Ok-Text-default.len c.in-Ok-Text-default.rest.now head c.requires) c.skip_string.ensures

pub returns-in-Ok : goal.returns-in-Ok
returns-in-Ok c = rw (past-item 32 c.args.bytes.now c.in-Ok.rest.now c.in-Ok.head c.in-Ok.ensures) c.walk_after.ensures.rest

pub returns-in-Err : goal.returns-in-Err
returns-in-Err c = past-fault 32 c.args.bytes.now c.in-Err.kind c.in-Err.ensures
