use Rattle.std.proofs.Common.{sym, arith}
use Rattle.cert_view.proofs.TimeTexts.{time-length}
use Rattle.cert_view.proofs.times.generalized_time.Goals as goal

pub returns-in_default : goal.returns-in_default
returns-in_default c = sym (time-length c.args.text.now (λ is. omega (arith, is, c.in_default.len_below)))
