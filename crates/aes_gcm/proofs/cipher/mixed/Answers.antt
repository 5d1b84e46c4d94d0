use Rattle.std.proofs.Common.{refl}
use Rattle.aes_gcm.proofs.FieldLemmas.{product-three, product-two}
use Rattle.aes_gcm.proofs.cipher.mixed.Goals as goal

pub returns : goal.returns
returns c = rw (product-two, product-three, c.xtimes.ensures, c.xtimes-2.ensures) refl
