use Rattle.std.proofs.Common.{◌≡◌}
use Rattle.aes_gcm.specs.Cipher.{rounds}
use Rattle.aes_gcm.proofs.key.Key256.block.Given as goal

abbrev pub invariant-loop-round : goal.invariant-loop-round
invariant-loop-round l = l.state ≡ rounds l.self l.block l.round
