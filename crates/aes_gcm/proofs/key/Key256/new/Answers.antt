use Rattle.std.proofs.Common.{rules, sym, ap}
use Rattle.aes_gcm.specs.Cipher.{expanded_key}
use Rattle.aes_gcm.proofs.CipherLemmas.{take-expanded_key}
use Rattle.aes_gcm.proofs.key.Key256.new.Goals as goal

pub invariant_of-result : goal.invariant_of-result
invariant_of-result c =
    rw c.expanded_key.ensures
    (ap expanded_key (sym (take-expanded_key c.args.key.now (search rules))))

pub returns : goal.returns
returns c = rw c.expanded_key.ensures (take-expanded_key c.args.key.now (search rules))
