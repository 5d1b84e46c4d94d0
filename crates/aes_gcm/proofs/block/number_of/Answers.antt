use Rattle.std.proofs.Common.{◌∙◌, ap}
use Rattle.aes_gcm.specs.Galois.{bits}
use Rattle.aes_gcm.proofs.BlockLemmas.{bits-from_be_bytes}
use Rattle.aes_gcm.proofs.block.number_of.Goals as goal

pub returns : goal.returns
returns c =
    ap (bits 128) c.from_be_bytes.ensures
    ∙ bits-from_be_bytes c.args.block.now c.told-block c.fits-block
