use Rattle.std.proofs.Common.{◌≡◌, ◌-◌, ◌*◌, take}
use Rattle.aes_gcm.specs.Cipher.{expansion}
use Rattle.aes_gcm.proofs.schedule.expand.Given as goal

abbrev pub invariant-loop-i : goal.invariant-loop-i
invariant-loop-i l = take (4 * l.i) l.words ≡ expansion (take 32 l.fn.words) (l.i - 8)
