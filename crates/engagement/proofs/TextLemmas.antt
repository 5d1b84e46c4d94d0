-- A text of bytes that are no engagement is the text of no engagement.
use Rattle.std.proofs.Common.{◌≡◌, ℕ, List, Result, Ok, Err, IsOk, sym, ◌∙◌, subst}
use Rattle.engagement.proofs.UriLemmas.{one_uri}
use Rattle.engagement.specs.Engagement.{engagement}
use Rattle.engagement.specs.Uri.{ReadsUri}
use Rattle.engagement.specs.declared.engage_fault.EngageFault.{EngageFault}
use Rattle.key_device.specs.declared.point.Point.{Point}
use Rattle.engagement.specs.EngagementFile.{IsTextOfNone}

not-both : (result : Result Point EngageFault) (fault : EngageFault) → result ≡ Err fault → IsOk result → ⊥
not-both result fault e is = cc

pub of-none : (text bytes : List ℕ) (fault : EngageFault) → ReadsUri text (Ok bytes) → engagement bytes ≡ Err fault → IsTextOfNone text
of-none text bytes fault read broken other is =
    let same = one_uri bytes other read.0 is.0 (sym read.1 ∙ is.1) in
    not-both (engagement bytes) fault broken (subst (λ b. IsOk (engagement b)) (sym same) is.2)
