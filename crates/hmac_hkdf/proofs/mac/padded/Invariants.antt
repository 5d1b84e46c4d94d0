use Rattle.std.proofs.Common.{◌≡◌, ◌++◌, take, drop}
use Rattle.hmac_hkdf.specs.Mac.{padded}
use Rattle.hmac_hkdf.proofs.mac.padded.Given as goal

abbrev pub invariant-loop-byte : goal.invariant-loop-byte
invariant-loop-byte l =
    l.byte-items ≡ padded (take l.byte-index l.block) l.pad ++ drop l.byte-index l.block
