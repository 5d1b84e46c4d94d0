use Rattle.std.proofs.Common.{◌≡◌, ℕ, ◌+◌, ◌-◌, ◌*◌, ◌∙◌, List, arith, take, drop, ap}
use Rattle.aes_gcm.specs.Cipher.{expanded_key, round_key}
use Rattle.aes_gcm.proofs.key.Key256.round_key.Goals as goal

pub returns-clause-key : goal.returns-clause-key
unfolding round_key
returns-clause-key c =
    let at = 16 * c.args.round in
    let size : at + 16 - at ≡ 16 = omega arith in
    rw size
    (ap (λ (bytes : List ℕ). take 16 (drop at bytes))
    (c.self.invariant ∙ ap expanded_key c.self.view_is))
