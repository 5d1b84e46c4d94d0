use Rattle.std.proofs.Common.{rules}
use Rattle.hmac_hkdf.proofs.Expansion.{put_is}
use Rattle.hmac_hkdf.proofs.derivation.put.Goals as goal

pub returns : goal.returns
returns c =
    rw c.copy_from_slice.ensures.after
    (put_is c.args.out.now c.args.block.now c.args.at c.min-size.result c.requires
    (search rules) c.min-size.ensures)
