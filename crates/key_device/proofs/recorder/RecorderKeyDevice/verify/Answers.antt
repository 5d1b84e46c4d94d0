use Rattle.std.proofs.Common.{◌≡◌, ◌++◌, ◌∷◌, [], ℕ, List, Some, ap, ◌∙◌, arith}
use Rattle.key_device.specs.Asking.{told_by_verify}
use Rattle.key_device.specs.Recording.{talk, exchange}
use Rattle.key_device.specs.declared.ask.Ask.TheVariants.{Verify}
use Rattle.key_device.specs.declared.exchange.Exchange.{Exchange}
use Rattle.key_device.proofs.GaveLemmas.{gave_verify}
use Rattle.key_device.proofs.recorder.RecorderKeyDevice.verify.Goals as goal
use Rattle.key_device.proofs.recorder.RecorderKeyDevice.verify.Goals.{in-Ok-true, in-Ok-false, in-Err-Failed}

pub returns-clause-gave : goal.returns-clause-gave
returns-clause-gave g c =
    let told : told_by_verify c.verify-answer.result ≡ Some c.match-answer.told =
    elim c.match-answer.branch [ in-Ok-true w ↦ grind arith | in-Ok-false w ↦ grind arith | in-Err-Failed w ↦ grind arith ] in
    let added = c.keep.ensures.added
    ∙ ap (λ (es : List Exchange). es ++ exchange (Verify c.args.public.now c.in_ok-kept.kept c.args.signature.now) c.match-answer.told ∷ []) c.reserve.ensures.items
    ∙ ap (λ (m : List ℕ). talk c.args.self.now ++ exchange (Verify c.args.public.now m c.args.signature.now) c.match-answer.told ∷ []) c.in_ok-kept.ensures in
    gave_verify c.args.public.now c.args.message.now c.args.signature.now c.verify-answer.result c.match-answer.told told c.verify-answer.ensures.gives c.verify-answer.ensures.cause added
