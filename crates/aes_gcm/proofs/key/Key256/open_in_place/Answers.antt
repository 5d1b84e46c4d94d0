use Rattle.std.proofs.Common.{◌∙◌, ap, Some, sym, rules, List, ℕ}
use Rattle.aes_gcm.proofs.SealingLemmas.{opened-other, opened-same}
use Rattle.aes_gcm.proofs.key.Key256.open_in_place.Goals as goal

pub returns-then-ne-clause-err : goal.returns-then-ne-clause-err
returns-then-ne-clause-err c =
    opened-other c.args.self.now c.args.iv.now c.args.text.now c.args.tag.now c.told-tag
    (search rules)

pub returns-clause-ok : goal.returns-clause-ok
returns-clause-ok c =
    opened-same c.args.self.now c.args.iv.now c.args.text.now c.args.tag.now c.told-tag
    (search rules)
    ∙ ap (λ (t : List ℕ). Some t) (sym c.add_keystream.ensures)
