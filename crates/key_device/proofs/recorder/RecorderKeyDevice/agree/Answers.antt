use Rattle.std.proofs.Common.{◌≡◌, Some, arith}
use Rattle.key_device.specs.Asking.{told_by_agree}
use Rattle.key_device.proofs.GaveLemmas.{gave_agree}
use Rattle.key_device.proofs.recorder.RecorderKeyDevice.agree.Goals as goal
use Rattle.key_device.proofs.recorder.RecorderKeyDevice.agree.Goals.{in-Ok-Some, in-Ok-None, in-Err-Failed}

pub returns-clause-gave : goal.returns-clause-gave
returns-clause-gave g c =
    let told : told_by_agree c.agree-answer.result ≡ Some c.match-answer.told =
    elim c.match-answer.branch [ in-Ok-Some w ↦ grind arith | in-Ok-None w ↦ grind arith | in-Err-Failed w ↦ grind arith ] in
    gave_agree c.args.key c.args.peer.now c.agree-answer.result c.match-answer.told told c.agree-answer.ensures.gives c.agree-answer.ensures.cause (cc)
