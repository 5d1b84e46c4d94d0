use Rattle.std.proofs.Common.{refl}
use Rattle.mdoc_outside.proofs.GaveWordsLemmas.{words_none}
use Rattle.key_device.proofs.GaveLemmas.{gave_none}
use Rattle.wallet_core.proofs.StartExits.{device_failed, dice_failed, not_drawn, not_made, was_made}
use Rattle.wallet_core.proofs.starting.start.Goals as goal

pub returns-in-Err : goal.returns-in-Err
returns-in-Err g c = rw c.from.ensures (record {
  asked = not_drawn _ c.in-Err.fault c.in-Err.ensures.asked;
  gave = gave_none _;
  words = c.in-Err.ensures.gave;
  cause = dice_failed _ c.in-Err.fault c.in-Err.ensures.cause;
  engagement = tt;
})

pub returns-in-Ok-start_with : goal.returns-in-Ok-start_with
returns-in-Ok-start_with g c = record {
  asked = was_made c.in-Ok.id c.in-Ok-start_with.started c.in-Ok.ensures.asked c.in-Ok-start_with.ensures.asked;
  gave = c.in-Ok-start_with.ensures.gave;
  words = c.in-Ok.ensures.gave;
  cause = (c.in-Ok-start_with.ensures.cause.done, c.in-Ok.ensures.cause.done);
  engagement = c.in-Ok-start_with.ensures.engagement;
}

pub returns-in-Err-start_with : goal.returns-in-Err-start_with
returns-in-Err-start_with g c = rw c.from-in-Err-start_with.ensures (record {
  asked = not_made c.in-Ok.id c.in-Err-start_with.fault c.in-Ok.ensures.asked c.in-Err-start_with.ensures.asked;
  gave = c.in-Err-start_with.ensures.gave;
  words = c.in-Ok.ensures.gave;
  cause = device_failed c.in-Err-start_with.fault c.in-Ok.ensures.cause.done c.in-Err-start_with.ensures.cause;
  engagement = tt;
})
