use Rattle.std.proofs.Common.{arith}
use Rattle.cert_view.proofs.Padding.{padded-digits}
use Rattle.cert_view.proofs.integers.in_32.Goals as goal

pub returns : goal.returns
returns c =
    rw c.copy_from_slice.ensures.after
    (padded-digits c.args.digits.now (omega (arith, c.if-digits-gt32.false)))
