use Rattle.std.proofs.Common.{arith}
use Rattle.aes_gcm.proofs.SealingLemmas.{counter_block-is}
use Rattle.aes_gcm.proofs.sealing.counter_block.Goals as goal

pub returns : goal.returns
returns c =
    rw (c.copy_from_slice.ensures.after, c.copy_from_slice-2.ensures.after)
    (counter_block-is c.args.iv.now c.to_be_bytes.result c.args.n c.told-iv
    (omega arith) c.to_be_bytes.ensures)
