use Rattle.std.proofs.Common.{◌≡◌, ◌++◌, drop, take}
use Rattle.aes_gcm.specs.Bytes.{xored}
use Rattle.aes_gcm.proofs.block.xor_onto.Given as goal

abbrev pub invariant-loop-k : goal.invariant-loop-k
invariant-loop-k l = l.bytes ≡ xored (take l.k l.fn.bytes) l.block ++ drop l.k l.fn.bytes
