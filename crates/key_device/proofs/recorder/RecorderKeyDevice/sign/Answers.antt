use Rattle.std.proofs.Common.{◌≡◌, ◌++◌, ◌∷◌, [], ℕ, List, Some, ap, ◌∙◌, arith}
use Rattle.key_device.specs.Asking.{told_by_sign}
use Rattle.key_device.specs.Recording.{talk, exchange}
use Rattle.key_device.specs.declared.ask.Ask.TheVariants.{Sign}
use Rattle.key_device.specs.declared.exchange.Exchange.{Exchange}
use Rattle.key_device.proofs.GaveLemmas.{gave_sign}
use Rattle.key_device.proofs.recorder.RecorderKeyDevice.sign.Goals as goal
use Rattle.key_device.proofs.recorder.RecorderKeyDevice.sign.Goals.{in-Ok, in-Err-Failed}

pub returns-clause-gave : goal.returns-clause-gave
returns-clause-gave g c =
    let told : told_by_sign c.sign-answer.result ≡ Some c.match-answer.told =
    elim c.match-answer.branch [ in-Ok w ↦ grind arith | in-Err-Failed w ↦ grind arith ] in
    let added = c.keep.ensures.added
    ∙ ap (λ (es : List Exchange). es ++ exchange (Sign c.args.key c.in_ok-kept.kept) c.match-answer.told ∷ []) c.reserve.ensures.items
    ∙ ap (λ (m : List ℕ). talk c.args.self.now ++ exchange (Sign c.args.key m) c.match-answer.told ∷ []) c.in_ok-kept.ensures in
    gave_sign c.args.key c.args.message.now c.sign-answer.result c.match-answer.told told c.sign-answer.ensures.gives c.sign-answer.ensures.cause added
