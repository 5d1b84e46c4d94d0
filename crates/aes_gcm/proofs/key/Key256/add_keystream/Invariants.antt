use Rattle.std.proofs.Common.{◌≡◌, ◌*◌, ◌++◌, drop, take}
use Rattle.aes_gcm.specs.Bytes.{xored}
use Rattle.aes_gcm.specs.Sealing.{keystream}
use Rattle.aes_gcm.proofs.key.Key256.add_keystream.Given as goal

abbrev pub invariant-loop-i : goal.invariant-loop-i
invariant-loop-i l =
    l.text
    ≡ xored (take (16 * l.i) l.fn.text) (keystream l.self l.iv l.i) ++ drop (16 * l.i) l.fn.text
