use Rattle.std.proofs.Common.{◌≡◌}
use Rattle.aes_gcm.specs.Galois.{bits, hash_after}
use Rattle.aes_gcm.specs.Sealing.{hashed}
use Rattle.aes_gcm.proofs.padding.hash_of.Given as goal

abbrev pub invariant-loop-i : goal.invariant-loop-i
invariant-loop-i l = bits 128 l.sum ≡ hash_after (bits 128 l.h) (hashed l.cipher) l.i
