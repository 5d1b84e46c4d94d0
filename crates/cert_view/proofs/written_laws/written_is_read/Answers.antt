use Rattle.cert_view.proofs.WrittenWhole.{read-as-written}
use Rattle.cert_view.proofs.written_laws.written_is_read.Goals as goal

pub returns : goal.returns
returns c = read-as-written
