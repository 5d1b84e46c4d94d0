use Rattle.aes_gcm.proofs.SealingLemmas.{sealed_opens}
use Rattle.aes_gcm.proofs.laws.opening_gives_the_sealed_text.Goals as goal

pub returns : goal.returns
returns c = sealed_opens
