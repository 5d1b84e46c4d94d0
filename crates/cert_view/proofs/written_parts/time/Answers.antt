use Rattle.std.proofs.Common.{◌≡◌, IfOk, ℕ, List, subst}
use Rattle.cert_view.proofs.Assembled.{utc-is}
use Rattle.cert_view.proofs.written_parts.time.Goals as goal

pub returns-then-moment-lt-YEAR_2050 : goal.returns-then-moment-lt-YEAR_2050
returns-then-moment-lt-YEAR_2050 c =
    subst (λ (x : List ℕ). IfOk c.element.result (λ bytes. bytes.items ≡ x))
    (utc-is c.args.moment c.time_text-text.result c.split_at.result.1.now c.requires c.if-moment-lt-YEAR_2050.true c.time_text-text.ensures c.split_at.ensures.back)
    c.element.ensures
