use Rattle.std.proofs.Common.{◌≡◌, ◌*◌, ◌<◌, length, take}
use Rattle.hmac_hkdf.specs.Derivation.{expansion_block, expansion_blocks}
use Rattle.hmac_hkdf.proofs.derivation.expand.Given as goal

abbrev pub invariant-loop-n : goal.invariant-loop-n
invariant-loop-n l = record {
  before : 0 < l.n → l.block ≡ expansion_block l.prk l.info l.n;
  written : take (l.n * 32) l.out ≡ take (length l.out) (expansion_blocks l.prk l.info l.n);
}
