use Rattle.std.proofs.Common.{◌∙◌, ap, rules}
use Rattle.std.proofs.lemmas.List.{take_at}
use Rattle.aes_gcm.specs.Cipher.{expanded_key}
use Rattle.aes_gcm.proofs.schedule.expanded_key.Goals as goal

pub returns : goal.returns
returns c =
    c.expand.ensures
    ∙ ap expanded_key
    (take_at c.copy_from_slice.new.self _ 32 (search rules) ∙ c.copy_from_slice.ensures.after)
