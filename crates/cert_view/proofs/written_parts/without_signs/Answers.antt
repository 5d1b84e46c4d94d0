use Rattle.std.proofs.Common.{arith}
use Rattle.cert_view.proofs.WrittenTexts.{unsigned-listed}
use Rattle.cert_view.proofs.written_parts.without_signs.Goals as goal

pub returns : goal.returns
returns c = unsigned-listed c.args.text (omega arith)
