use Rattle.std.proofs.Common.{arith}
use Rattle.cert_view.proofs.TimeTexts.{signs-listed}
use Rattle.cert_view.proofs.times.with_signs.Goals as goal

pub returns-in-len13-clause-written : goal.returns-in-len13-clause-written
returns-in-len13-clause-written c =
    signs-listed c.args.first c.args.second c.args.text.now (omega (arith, c.in-len13))
