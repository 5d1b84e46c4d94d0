use Rattle.std.proofs.Common.{arith}
use Rattle.aes_gcm.proofs.BytesLemmas.{xored_over_more}
use Rattle.aes_gcm.proofs.block.xor_onto.Goals as goal

pub loop-k-preserved : goal.loop-k-preserved
loop-k-preserved c =
    xored_over_more c.args.bytes.now c.args.block.now c.loop-k.bytes c.loop-k.k (omega arith)
    (omega arith)
    c.loop-k.invariant
