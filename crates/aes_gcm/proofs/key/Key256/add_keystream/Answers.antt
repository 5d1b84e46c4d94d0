use Rattle.std.proofs.Common.{◌≡◌, ◌+◌, ◌-◌, ◌*◌, ◌∙◌, arith, ap, length}
use Rattle.std.specs.Int.{div_ceil}
use Rattle.aes_gcm.specs.Cipher.{aes}
use Rattle.aes_gcm.proofs.SealingLemmas.{keystream_end, keystream_more}
use Rattle.aes_gcm.proofs.key.Key256.add_keystream.Goals as goal

pub loop-i-preserved : goal.loop-i-preserved
loop-i-preserved c =
    let i = c.loop-i.i in
    let size = c.min-size.result in
    let count : 16 * i + size - 16 * i ≡ size = omega arith in
    let block = c.block-stream.ensures ∙ ap (aes c.args.self.now) c.counter_block.ensures in
    rw (c.xor_onto.ensures, count)
    (keystream_more c.args.self.now c.args.iv.now c.args.text.now c.loop-i.text
    c.block-stream.result i size
    (omega arith) (omega arith) c.loop-i.invariant block)

pub returns : goal.returns
returns c =
    let all : c.loop-i.i ≡ div_ceil (length c.args.text.now) 16 = omega arith in
    keystream_end c.args.self.now c.args.iv.now c.args.text.now c.loop-i.text c.loop-i.i all
    c.loop-i.invariant
