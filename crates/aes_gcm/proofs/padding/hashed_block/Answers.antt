use Rattle.std.proofs.Common.{◌≡◌, ◌+◌, ◌-◌, ◌*◌, ◌∙◌, arith, ap, sym}
use Rattle.aes_gcm.specs.Galois.{bits_of, block_at}
use Rattle.aes_gcm.proofs.BlockLemmas.{hashed_part}
use Rattle.aes_gcm.proofs.padding.hashed_block.Goals as goal

pub returns : goal.returns
unfolding block_at
returns c =
    let i = c.args.i in
    let size = c.min-size.result in
    let count : 16 * i + size - 16 * i ≡ size = omega arith in
    c.number_of.ensures
    ∙ ap bits_of
    ((rw count at c.filled.ensures)
    ∙ sym (hashed_part c.args.cipher.now i size c.requires c.min-size.ensures))
