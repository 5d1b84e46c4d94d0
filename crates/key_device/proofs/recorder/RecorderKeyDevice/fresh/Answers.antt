use Rattle.std.proofs.Common.{◌≡◌, Some, arith}
use Rattle.key_device.specs.Asking.{told_by_fresh}
use Rattle.key_device.proofs.GaveLemmas.{gave_fresh}
use Rattle.key_device.proofs.recorder.RecorderKeyDevice.fresh.Goals as goal
use Rattle.key_device.proofs.recorder.RecorderKeyDevice.fresh.Goals.{in-Ok, in-Err-Failed}

pub returns-clause-gave : goal.returns-clause-gave
returns-clause-gave g c =
    let told : told_by_fresh c.fresh-answer.result ≡ Some c.match-answer.told =
    elim c.match-answer.branch [ in-Ok w ↦ grind arith | in-Err-Failed w ↦ grind arith ] in
    gave_fresh c.fresh-answer.result c.match-answer.told told c.fresh-answer.ensures.gives c.fresh-answer.ensures.cause (cc)
