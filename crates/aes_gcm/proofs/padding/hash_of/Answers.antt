use Rattle.std.proofs.Common.{◌≡◌, length, arith}
use Rattle.std.specs.Int.{div_ceil}
use Rattle.aes_gcm.specs.Galois.{bits}
use Rattle.aes_gcm.specs.Sealing.{hashed}
use Rattle.aes_gcm.proofs.BlockLemmas.{hash_end, hash_more, hash_none}
use Rattle.aes_gcm.proofs.padding.hash_of.Goals as goal

pub loop-i-init : goal.loop-i-init
loop-i-init c = hash_none (bits 128 c.args.h) (hashed c.args.cipher.now)

pub loop-i-preserved : goal.loop-i-preserved
loop-i-preserved c =
    hash_more (bits 128 c.args.h)
    (hashed c.args.cipher.now) c.loop-i.i c.loop-i.sum c.hashed_block.result
    c.product-sum.result c.loop-i.invariant c.hashed_block.ensures c.product-sum.ensures

pub returns : goal.returns
returns c =
    let all : c.loop-i.i ≡ div_ceil (length c.args.cipher.now) 16 = omega arith in
    hash_end (bits 128 c.args.h) c.args.cipher.now c.loop-i.i c.loop-i.sum c.product.result
    (omega arith) all
    c.loop-i.invariant c.product.ensures
