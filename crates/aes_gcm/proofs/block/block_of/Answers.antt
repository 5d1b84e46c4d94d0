use Rattle.std.proofs.Common.{◌∙◌, sym}
use Rattle.aes_gcm.proofs.BlockLemmas.{bytes_of-bits}
use Rattle.aes_gcm.proofs.block.block_of.Goals as goal

pub returns : goal.returns
returns c = c.to_be_bytes.ensures ∙ sym (bytes_of-bits c.args.number)
