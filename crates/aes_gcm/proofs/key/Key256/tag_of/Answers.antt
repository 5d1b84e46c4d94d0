use Rattle.std.proofs.Common.{List, ℕ, ◌∙◌, ap, ap₂}
use Rattle.aes_gcm.specs.Bytes.{xored}
use Rattle.aes_gcm.specs.Cipher.{aes}
use Rattle.aes_gcm.specs.Galois.{bits_of, bytes_of, ghash}
use Rattle.aes_gcm.specs.Sealing.{hashed, tag_of}
use Rattle.aes_gcm.proofs.key.Key256.tag_of.Goals as goal

pub returns : goal.returns
unfolding tag_of
returns c =
    c.xor_onto.ensures
    ∙ ap₂ xored
    (c.block_of-tag.ensures
    ∙ ap (bytes_of 16)
    (c.hash_of.ensures
    ∙ ap (λ (h : List ℕ). ghash h (hashed c.args.cipher.now))
    (c.number_of-h.ensures ∙ ap bits_of c.block.ensures)))
    (c.block-2.ensures ∙ ap (aes c.args.self.now) c.counter_block.ensures)
